-- No line is longer than the longest line: a head of 9 bytes, 24 pieces of at most 56, and LF.
use Rattle.std.proofs.Common.{◌≡◌, ℕ, zero, suc, ◌+◌, ◌-◌, ◌*◌, ◌≤◌, Bool, true, false, cond, eqb, leb, List, [], ◌∷◌, ◌++◌, map, length, Some, None, Option, refl, ap, arith, length-append}
use Rattle.limits.specs.Limits.{longest_text, longest_finished, longest_line}
use Rattle.texts.specs.Checks.{check_character}
use Rattle.texts.specs.Finishing.{blanked, suppressed, finished_text}
use Rattle.texts.specs.declared.checks.Check.{Check}
use Rattle.texts.specs.declared.checks.Check.TheVariants.{NoCheck, Modulus10, Modulus43}
use Rattle.limits.specs.Limits.{text_fields, bar_fields}
use Rattle.fields.specs.Records.{FormatSeen, FieldSeen, seen_field}
use Rattle.fields.specs.Tables.{Table}
use Rattle.fields.specs.declared.field.Field.{Field}
use Rattle.tagline.specs.Line.{piece_head, piece_of, piece, pieces_from, pieces, line_head, line_of, letter_t, letter_b, longest_piece, ShortFields}

length_blanked : (n : ℕ) (t : List ℕ) → length (blanked n t) ≡ length t
length_blanked zero t = refl
length_blanked (suc n) [] = refl
length_blanked (suc n) (b ∷ t) = go (eqb b 48) (length_blanked n t)
  where
    go : (x : Bool) → length (blanked n t) ≡ length t
        → length (cond x (32 ∷ blanked n t) (b ∷ t)) ≡ suc (length t)
    go true h = ap suc h
    go false h = refl

length_suppressed : (z : Option ℕ) (t : List ℕ) → length (suppressed z t) ≡ length t
length_suppressed None t = refl
length_suppressed (Some zz) t = go (leb zz (length t))
  where
    go : (x : Bool) → length (cond x (blanked (length t - zz) t) t) ≡ length t
    go true = length_blanked (length t - zz) t
    go false = refl

one_character : (c : Check) (t : List ℕ) → length (check_character c t) ≤ 1
one_character NoCheck t = omega arith
one_character Modulus10 t = omega arith
one_character Modulus43 t = omega arith

finished_short : (c : Check) (z : Option ℕ) (t : List ℕ) → length t ≤ longest_text
    → length (finished_text c z t) ≤ longest_finished
finished_short c z t h =
    omega (
      arith,
      length_suppressed z (t ++ check_character c t),
      length-append t (check_character c t),
      one_character c t,
    )

piece_short : (letter number : ℕ) (s : FieldSeen) → length s.text ≤ longest_text
    → length (piece letter number s) ≤ longest_piece
piece_short letter number s h = go (eqb (length s.text) 0) s.format
  where
    with_format : (f : Option FormatSeen) → length (piece_of letter number f s.text) ≤ longest_piece
    with_format None = omega arith
    with_format (Some l) =
        omega (
          arith,
          length-append (piece_head letter number l.x l.y) (finished_text l.check l.kept s.text),
          finished_short l.check l.kept s.text h,
        )

    go : (x : Bool) (f : Option FormatSeen) → length (cond x [] (piece_of letter number f s.text)) ≤ longest_piece
    go true f = omega arith
    go false f = with_format f

pub pieces_short : (letter number : ℕ) (ss : List FieldSeen) → ShortFields ss
    → length (pieces_from letter number ss) ≤ longest_piece * length ss
pieces_short letter number [] h = omega arith
pieces_short letter number (s ∷ ss) h =
    omega (
      arith,
      length-append (piece letter number s) (pieces_from letter (number + 1) ss),
      piece_short letter number s h.0,
      pieces_short letter (number + 1) ss h.1,
    )

pub line_short : (number size : ℕ) (t : Table) → length t.texts ≡ text_fields → length t.bars ≡ bar_fields
    → ShortFields t.texts → ShortFields t.bars
    → length (line_of number size t) ≤ longest_line
line_short number size t texts bars p q =
    let T = pieces_from letter_t 1 t.texts in
    let B = pieces_from letter_b 1 t.bars in
    omega (
      arith,
      length-append (line_head number size) (pieces t ++ (10 ∷ [])),
      length-append (pieces t) (10 ∷ []),
      length-append T B,
      pieces_short letter_t 1 t.texts p,
      pieces_short letter_b 1 t.bars q,
      texts,
      bars,
    )

-- the texts of the code's fields are texts, so they are short
pub seen_short : (fields : List Field) → ShortFields (map seen_field fields)
seen_short [] = tt
seen_short (f ∷ fs) =
    (f.text.plain.short, seen_short fs)
