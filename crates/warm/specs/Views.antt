-- The warm store of the code, as the model has it.
--
--   warm_in w           the warm store w
--   fresh_warm f ρ t    the warm store on the frame f at the start of the round ρ, with the pages of the table t
use Rattle.std.specs.Prelude.{List, [], false, ℕ}
use Rattle.frame.specs.declared.Frame.{Frame}
use Rattle.frame.specs.Frames.{shape_in}
use Rattle.pages.specs.declared.Page.{Page}
use Rattle.pages.specs.Pages.{pages_in}
use Rattle.log_space.specs.Views.{used_in}
use Rattle.open_sets.specs.Views.{sets_in}
use Rattle.model.specs.Store as store
use Rattle.warm.specs.declared.Warm.{Warm}

abbrev pub warm_in : Warm → store.Warm
warm_in w = record {
  shape = shape_in w.frame;
  round = w.round;
  page = pages_in w.frame.pages w.pages;
  filled = used_in w.space;
  turn = w.space.turn;
  begun = w.begun;
  commits = w.commits;
  sets = sets_in w.sets;
  spoilt = w.spoilt;
}

abbrev pub fresh_warm : Frame → ℕ → List Page → store.Warm
fresh_warm f ρ t = record {
  shape = shape_in f;
  round = ρ;
  page = pages_in f.pages t;
  filled = λ _. 0;
  turn = 1;
  begun = 0;
  commits = 0;
  sets = [];
  spoilt = false;
}
