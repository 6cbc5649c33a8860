-- What is printed of a text.
--   blanked n t        t with the unbroken run of 0 at its front turned into spaces, within its first n places
--   suppressed z t     zero suppression: where z names zz places, at most as many as t has, all but the last zz
--                      of t are blanked
--   finished_text c z t t with its check character behind it, then with its zeros suppressed
--   Put bytes before after n   the bytes, n in number, lie in the front of a buffer, and all behind them is as it
--                     was
--   PutIfRoom room bytes before after r   the same with the number r; or none, where the buffer is shorter than the
--                     room that is asked for, and then it is as it was
use Rattle.std.specs.Prelude.{◌≡◌, ℕ, zero, suc, ◌-◌, ◌<◌, ◌≤◌, cond, List, [], ◌∷◌, ◌++◌, length, drop, Some, None, Option, ◌==◌, nat_le}
use Rattle.texts.specs.Checks.{check_character}
use Rattle.texts.specs.declared.checks.Check.{Check}

abbrev pub blanked : ℕ → List ℕ → List ℕ
blanked zero t = t
blanked (suc n) [] = []
blanked (suc n) (b ∷ t) = cond (b == 48) (32 ∷ blanked n t) (b ∷ t)

abbrev pub suppressed : Option ℕ → List ℕ → List ℕ
suppressed None t = t
suppressed (Some zz) t = cond (nat_le zz (length t)) (blanked (length t - zz) t) t

abbrev pub finished_text : Check → Option ℕ → List ℕ → List ℕ
finished_text c z t = suppressed z (t ++ check_character c t)

abbrev pub Put : List ℕ → List ℕ → List ℕ → ℕ → Type 0
Put bytes before after n = (n ≡ length bytes) × (after ≡ bytes ++ drop n before)

abbrev pub PutIfRoom : ℕ → List ℕ → List ℕ → List ℕ → Option ℕ → Type 0
PutIfRoom room bytes before after (Some n) = Put bytes before after n × (room ≤ length before)
PutIfRoom room bytes before after None = (after ≡ before) × (length before < room)
