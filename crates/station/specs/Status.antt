-- The status answer, thirteen bytes: 01H 02H, the status in two digits, `1`, how many labels are owed in four
-- digits, 03H 04H 0DH 0AH.
--   status_characters owed left   the status: `00` where no label is waited for, `02` where a print is, `13` where
--                                 a reload has to come first
--   answer_for, status_answer v   the bytes, for labels owed and stock left, and of a station
use Rattle.std.specs.Prelude.{ℕ, cond, List, [], ◌∷◌, ◌++◌, ◌==◌}
use Rattle.tagline.specs.Digits.{four_digits}
use Rattle.station.specs.Views.{View, owed_by}

abbrev pub status_characters : ℕ → ℕ → List ℕ
status_characters owed left = cond (owed == 0) (48 ∷ 48 ∷ []) (cond (left == 0) (49 ∷ 51 ∷ []) (48 ∷ 50 ∷ []))

abbrev pub answer_for : ℕ → ℕ → List ℕ
answer_for owed left = 1 ∷ 2 ∷ (status_characters owed left ++ (49 ∷ (four_digits owed ++ (3 ∷ 4 ∷ 13 ∷ 10 ∷ []))))

abbrev pub status_answer : View → List ℕ
status_answer v = answer_for (owed_by v) v.paper.left
