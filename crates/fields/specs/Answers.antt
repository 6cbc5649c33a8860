-- What a call that may refuse answers.
--   Answered why r before after done   where the answer r is Ok, there is no reason why to refuse, and all is left as
--                     done says; where it is an error, that is the reason, and nothing has changed
use Rattle.std.specs.Prelude.{◌≡◌, Some, None, Ok, Err, Option, Result}

abbrev pub Answered : {Fault View : Type 0} → Option Fault → Result (Unit {0}) Fault → View → View → View
    → Type 0
Answered why (Ok x) before after done = (why ≡ None) × (after ≡ done)
Answered why (Err e) before after done = (why ≡ Some e) × (after ≡ before)
