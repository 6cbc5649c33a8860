-- The line of a finished tag.
--   piece letter number s   the piece of the field s in the line: a comma, the letter of its kind with two digits
--                           of its
--                  number, X and Y of four digits and the finished text, parted by commas; a field without text
--                  has none
--   pieces t       the pieces of all fields in the order of print: text fields before bars, each kind by its numbers
--   line_of number size t   the line: the number of the tag in its issue and the size of the issue, four digits
--                           each, parted
--                  by a comma, then the pieces of all fields, then LF
--   Written line before after r   what writing a line into a buffer answers: its length, with the line in the
--                                 front of
--                  the buffer and all bytes behind it as they were; or nothing, where the buffer is too short for
--                  the longest line, and then the buffer is as it was
--   ShortFields ss  no text of the fields ss is longer than a text may be
use Rattle.std.specs.Prelude.{◌≡◌, ℕ, ◌+◌, ◌<◌, ◌≤◌, cond, List, [], ◌∷◌, ◌++◌, length, drop, Some, None, Option, ◌==◌}
use Rattle.limits.specs.Limits.{longest_text, longest_finished, longest_line}
use Rattle.std.specs.List.{AllByRecursion}
use Rattle.texts.specs.Finishing.{finished_text}
use Rattle.fields.specs.Records.{FormatSeen, FieldSeen}
use Rattle.fields.specs.Tables.{Table}
use Rattle.tagline.specs.Digits.{two_digits, four_digits}

abbrev pub comma : ℕ
comma = 44

abbrev pub letter_t : ℕ
letter_t = 84

abbrev pub letter_b : ℕ
letter_b = 66

-- what stands before the finished text in a piece
abbrev pub piece_head : ℕ → ℕ → ℕ → ℕ → List ℕ
piece_head letter number x y =
    comma ∷ letter ∷ (two_digits number ++ (comma ∷ (four_digits x ++ (comma ∷ (four_digits y ++ (comma ∷ []))))))

abbrev pub piece_of : ℕ → ℕ → Option FormatSeen → List ℕ → List ℕ
piece_of letter number None text = []
piece_of letter number (Some l) text = piece_head letter number l.x l.y ++ finished_text l.check l.kept text

abbrev pub piece : ℕ → ℕ → FieldSeen → List ℕ
piece letter number s = cond (length s.text == 0) [] (piece_of letter number s.format s.text)

-- the longest piece: its head and the longest finished text
abbrev pub longest_piece : ℕ
longest_piece = 15 + longest_finished

-- the pieces of fields that are numbered from `number` on
abbrev pub pieces_from : ℕ → ℕ → List FieldSeen → List ℕ
pieces_from letter number [] = []
pieces_from letter number (s ∷ ss) = piece letter number s ++ pieces_from letter (number + 1) ss

abbrev pub pieces_over : List FieldSeen → List FieldSeen → List ℕ
pieces_over texts bars = pieces_from letter_t 1 texts ++ pieces_from letter_b 1 bars

abbrev pub pieces : Table → List ℕ
pieces t = pieces_over t.texts t.bars

abbrev pub line_head : ℕ → ℕ → List ℕ
line_head number size = four_digits number ++ (comma ∷ four_digits size)

abbrev pub line_over : ℕ → ℕ → List FieldSeen → List FieldSeen → List ℕ
line_over number size texts bars = line_head number size ++ (pieces_over texts bars ++ (10 ∷ []))

abbrev pub line_of : ℕ → ℕ → Table → List ℕ
line_of number size t = line_over number size t.texts t.bars

abbrev pub ShortFields : List FieldSeen → Type 0
ShortFields = AllByRecursion (λ s. length s.text ≤ longest_text)

abbrev pub Written : List ℕ → List ℕ → List ℕ → Option ℕ → Type 0
Written line before after (Some n) =
    (n ≡ length line) × (after ≡ line ++ drop n before) × (n ≤ longest_line) × (longest_line ≤ length before)
Written line before after None = (after ≡ before) × (length before < longest_line)
