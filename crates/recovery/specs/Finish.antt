-- The end of recovery, as the model has it.
--
--   finished_reply r       what finish replied
--   finished_store r ks    the store that finish leaves, where the caller's marks are ks
use Rattle.std.specs.Prelude.{List, Ok, Err, Result}
use Rattle.later.specs.declared.Mark.{Mark}
use Rattle.model.specs.declared.Refusal.TheVariants.{OutOfStrokes}
use Rattle.model.specs.Store.{Store, cold, applying, warm}
use Rattle.model.specs.Outcome.{Reply, refused, numbers}
use Rattle.warm.specs.Views.{warm_in}
use Rattle.recovery.specs.declared.Finished.{Finished}
use Rattle.recovery.specs.declared.Unfinished.{Unfinished}
use Rattle.recovery.specs.declared.Unfinished.TheVariants.{Refused, OutOfStrokes as Short}
use Rattle.recovery.specs.Views.{applying_in}

abbrev pub finished_reply : Result Finished Unfinished → Reply
finished_reply (Ok f) = numbers f.sets f.pages
finished_reply (Err (Refused r)) = refused r.refusal
finished_reply (Err (Short c)) = refused OutOfStrokes

abbrev pub finished_store : Result Finished Unfinished → List Mark → Store
finished_store (Ok f) ks = warm (warm_in f.store)
finished_store (Err (Refused r)) ks = applying (applying_in r.store) ks
finished_store (Err (Short c)) ks = cold
