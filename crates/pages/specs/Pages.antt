-- The pages of a warm store, as the code has them.
--
--   holder_in h            the number of the holder h, as the model has it: 0 for nobody
--   no_page                what stands for a page that a table does not have
--   page_in g              the page g, as the model has it
--   pages_in n t p         page p of a store of n pages with the table t
--   committed_in t p       what is committed in page p of the table t
--   contents_in n t p      what is committed in page p of a store of n pages with the table t
--   released s g           the page g once the set s is committed
--   at_rest g              the page g at the start of a round
--   record_for e ps c b    the record e of a change to the bytes b in the runs of the pairs ps, where c is committed
use Rattle.std.specs.Prelude.{ℕ, false, cond, List, [], Some, None, Option, ◌==◌, nat_lt, slice_index_or}
use Rattle.std.specs.declared.num.NonZeroU8.{NonZeroU8}
use Rattle.std.specs.Int.NonZero.{non_zero_u8_get}
use Rattle.change.specs.declared.runs.Pair.{Pair}
use Rattle.change.specs.Changes.{Content}
use Rattle.change.specs.Edits.{gathered}
use Rattle.model.specs.Store as store
use Rattle.model.specs.Rounds.{rest_page}
use Rattle.pages.specs.declared.Page.{Page}
use Rattle.pages.specs.declared.Entry.{Entry}

abbrev pub holder_in : Option NonZeroU8 → ℕ
holder_in None = 0
holder_in (Some set) = non_zero_u8_get set

abbrev pub no_page : Page
no_page = record { committed = []; working = []; holder = None; touched = false }

abbrev pub page_in : Page → store.Page
page_in g = record { committed = g.committed; working = g.working; holder = holder_in g.holder; touched = g.touched }

-- a page that the store does not have is empty, whatever the table has in its place
abbrev pub pages_in : ℕ → List Page → ℕ → store.Page
pages_in n t p = cond (nat_lt p n) (page_in (slice_index_or t p no_page)) (rest_page [])

abbrev pub committed_in : List Page → ℕ → List ℕ
committed_in t p = (slice_index_or t p no_page).committed

abbrev pub contents_in : ℕ → List Page → ℕ → List ℕ
contents_in n t p = (pages_in n t p).committed

-- this is `committed_by` of the model, on the code's page
abbrev pub released : ℕ → Page → Page
released s g = cond (holder_in g.holder == s) (record { committed = g.working; working = g.working; holder = None; touched = g.touched }) g

abbrev pub at_rest : Page → Page
at_rest g = record { committed = g.committed; working = g.committed; holder = None; touched = false }

-- the before bytes are the committed ones
abbrev pub record_for : Entry → List Pair → List ℕ → List ℕ → Content
record_for e ps content bytes = record {
  page = e.page;
  round = e.round;
  set = e.set;
  step = e.step;
  pairs = ps;
  before = gathered ps content;
  after = bytes;
}
