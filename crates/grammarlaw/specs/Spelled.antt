-- The bytes of a command, from its parts.
--   spelled i s        the bytes of the item i, which yields the part s: an option that is left out has none
--   command_bytes p    ESC, the letters, the items, LF and NUL
--   SpelledAt          these bytes stand in the job from the place to the next
use Rattle.std.specs.Prelude.{◌≡◌, ℕ, ◌+◌, List, [], ◌∷◌, ◌++◌, length}
use Rattle.jobparts.specs.Grammar.{Item, fixed, part, number, chosen, lettered, signed, text, strings, source}
use Rattle.jobparts.specs.Parts.{PartSeen, missing, given, linked, bytes_of}
use Rattle.jobgroups.specs.Commands.{CommandSeen}
use Rattle.jobgroups.specs.Table.{letters_of, parts_of}
use Rattle.grammarlaw.specs.Rows.{Step, anew, item, steps_of}

-- bytes in front of a part that is given
abbrev pub led_by : List ℕ → PartSeen → List ℕ
led_by front missing = []
led_by front (given p bs) = front ++ bs
led_by front (linked p bs) = front ++ bs

abbrev pub spelled_source : PartSeen → List ℕ
spelled_source missing = []
spelled_source (given p bs) = 61 ∷ bs
spelled_source (linked p bs) = 59 ∷ bs

abbrev pub spelled : Item → PartSeen → List ℕ
spelled (fixed b) s = b ∷ []
spelled (part kind n) s = bytes_of s
spelled (number n low high) s = bytes_of s
spelled (chosen kind n admits) s = bytes_of s
spelled (lettered letter n high last) s = led_by (44 ∷ letter ∷ []) s
spelled (signed n last) s = led_by (44 ∷ []) s
spelled text s = bytes_of s
spelled (strings most) s = bytes_of s
spelled (source most) s = spelled_source s

abbrev pub spelled_first : Item → (List PartSeen → List ℕ) → List PartSeen → List ℕ
spelled_first i others [] = []
spelled_first i others (s ∷ ss) = spelled i s ++ others ss

abbrev pub spelled_all : List Step → List PartSeen → List ℕ
spelled_all [] ss = []
spelled_all (anew ∷ steps) ss = spelled_all steps ss
spelled_all (item (fixed b) ∷ steps) ss = b ∷ spelled_all steps ss
spelled_all (item i ∷ steps) ss = spelled_first i (spelled_all steps) ss

abbrev pub command_bytes : CommandSeen → List ℕ
command_bytes p =
    27 ∷ (letters_of p.letters ++ (spelled_all (steps_of (parts_of p.letters)) p.parts ++ (10 ∷ 0 ∷ [])))

pub record SpelledAt (job : List ℕ) (at next : ℕ) (p : CommandSeen) : Type 0 where
  pub before : List ℕ
  pub after : List ℕ
  pub whole : job ≡ before ++ (command_bytes p ++ after)
  pub place : at ≡ length before
  pub behind : next ≡ at + length (command_bytes p)
