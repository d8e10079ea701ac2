-- The head at the end of a round.
--
--   head_shape h    the shape of the store whose head is h, as far as a head tells it
--   next_head h     the head of the round after that of h
use Rattle.std.specs.Prelude.{◌+◌, ◌%◌, ◌^◌}
use Rattle.block.specs.declared.Head.{Head}
use Rattle.model.specs.Store.{Shape}

-- a head does not tell how many blocks a drive has, and the end of a round does not depend on it
abbrev pub head_shape : Head → Shape
head_shape h = record { pages = h.pages; logs = h.logs; blocks = λ d. 0 }

-- a round has four bytes, and the block of a head has no more of it, so that this is the next head at every round
abbrev pub next_head : Head → Head
next_head h = record h { round = (h.round + 1) % 2 ^ 32 }
