-- What a form store means, and what each call does to that meaning.
--   Forms           under each number a form or nothing, the longest form that it takes, and the total of all forms
--   numbered n      n is a number that a form can have
--   size_of o       the bytes of a form; none where there is nothing
--   others f n      the bytes of all forms but the one under n
--   Lawful f        what every store keeps. The forms may be any bytes, and may exceed the total already
--   length_of o     what a store answers when it is asked for a form's size
--   loaded_of, filled_with   what reading a form answers, and what it leaves in the buffer
--   put_answer, after_put   what putting a form answers, and the forms then
--   stored, emptied   the forms with one more, and with none
--   vacant l t      no form at all, with a longest form of l bytes and a total of t
--   lowered m f     the same forms under a total of at most m
--   from_one g      forms that are counted from 1, where g counts them from 0
--   forms_from_one g l t   a store with these forms, a longest form of l bytes and a total of t
use Rattle.std.specs.Prelude.{◌≡◌, ℕ, zero, suc, ◌+◌, ◌≤◌, Bool, false, cond, List, ◌++◌, length, drop, Some, None, Ok, Err, Option, Result, ◌==◌, nat_le}
use Rattle.limits.specs.Bytes.{between}
use Rattle.limits.specs.Limits.{last_form, longest_form, largest_total}
use Rattle.stores.specs.declared.answers.LoadFault.{LoadFault}
use Rattle.stores.specs.declared.answers.LoadFault.TheVariants.{NoForm, NoRoom}
use Rattle.stores.specs.declared.answers.StoreFault.{StoreFault}
use Rattle.stores.specs.declared.answers.StoreFault.TheVariants.{TooLong, Full}

pub record Forms : Type 0 where
  pub at : ℕ → Option (List ℕ)
  pub longest : ℕ
  pub total : ℕ

abbrev pub numbered : ℕ → Bool
numbered = between 1 last_form

abbrev pub size_of : Option (List ℕ) → ℕ
size_of (Some x) = length x
size_of None = 0

-- the bytes of the forms 1 to k, but for the one under n
unfoldable pub others_to : (ℕ → Option (List ℕ)) → ℕ → ℕ → ℕ
others_to at n zero = 0
others_to at n (suc k) = others_to at n k + cond (suc k == n) 0 (size_of (at (suc k)))

abbrev pub others : Forms → ℕ → ℕ
others f n = others_to f.at n last_form

pub record Lawful (f : Forms) : Type 0 where
  pub outside : (n : ℕ) → numbered n ≡ false → f.at n ≡ None
  pub short : (n : ℕ) → size_of (f.at n) ≤ longest_form
  pub longest : f.longest ≤ longest_form
  pub total : f.total ≤ largest_total

abbrev pub length_of : Option (List ℕ) → Option ℕ
length_of (Some x) = Some (length x)
length_of None = None

abbrev pub loaded_of : Option (List ℕ) → ℕ → Result ℕ LoadFault
loaded_of (Some x) room = cond (nat_le (length x) room) (Ok (length x)) (Err NoRoom)
loaded_of None room = Err NoForm

abbrev pub filled_with : Option (List ℕ) → List ℕ → List ℕ
filled_with (Some x) buffer = cond (nat_le (length x) (length buffer)) (x ++ drop (length x) buffer) buffer
filled_with None buffer = buffer

abbrev pub put_answer : Forms → ℕ → ℕ → Result (Unit {0}) StoreFault
put_answer f n long =
    let has_room = nat_le (others f n + long) f.total in
    cond (numbered n)
    (cond (nat_le long f.longest) (cond has_room (Ok tt) (Err Full)) (Err TooLong))
    (Err TooLong)

abbrev pub stored : Forms → ℕ → List ℕ → Forms
stored f n x = record f { at = λ k. cond (k == n) (Some x) (f.at k) }

abbrev pub vacant : ℕ → ℕ → Forms
vacant l t = record { at = λ k. None; longest = l; total = t }

abbrev pub emptied : Forms → Forms
emptied f = record f { at = λ k. None }

-- a refused put leaves the forms as they were
abbrev pub after_put : Result (Unit {0}) StoreFault → Forms → ℕ → List ℕ → Forms
after_put (Ok done) f n x = stored f n x
after_put (Err why) f n x = f

unfoldable pub from_one : (ℕ → Option (List ℕ)) → ℕ → Option (List ℕ)
from_one g zero = None
from_one g (suc k) = g k

abbrev pub forms_from_one : (ℕ → Option (List ℕ)) → ℕ → ℕ → Forms
forms_from_one g l t = record { at = from_one g; longest = l; total = t }

abbrev pub lowered : ℕ → Forms → Forms
lowered m f = record f { total = cond (nat_le f.total m) f.total m }
