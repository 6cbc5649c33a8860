-- The items that commands are made of, and the one reading of them.
use Rattle.std.specs.Prelude.{ℕ, zero, suc, ◌+◌, ◌-◌, Bool, cond, List, [], ◌∷◌, map, length, take, drop, Ok, Err, Result, nat_eq, nat_le, nat_lt, slice_index_or, slice_range}
use Rattle.limits.specs.Bytes.{between}
use Rattle.limits.specs.Limits.{longest_text, last_link}
use Rattle.jobparts.specs.Kinds.{run, stands, is_sign}
use Rattle.jobparts.specs.Parts.{PartSeen, missing, given, linked, Got, bytes_of, then, wrong_byte, not_admitted}
use Rattle.jobparts.specs.Values.{number_of}
use Rattle.jobparts.specs.declared.part.ByteKind.{ByteKind}
use Rattle.jobparts.specs.declared.part.ByteKind.TheVariants.{Digit, Text}
use Rattle.jobparts.specs.declared.part.List.{List as Listed}
use Rattle.jobparts.specs.declared.part.List.TheVariants.{Strings, Numbers}
use Rattle.jobparts.specs.declared.part.Wrong.{Wrong}

-- a fixed byte
unfoldable pub byte_at : ℕ → List ℕ → ℕ → Result ℕ Wrong
byte_at b body at = cond (stands (nat_eq b) body at) (Ok (at + 1)) (Err (wrong_byte at))

-- nothing is left over
unfoldable pub end_at : List ℕ → ℕ → Result (Unit {0}) Wrong
end_at body at = cond (nat_lt at (length body)) (Err (wrong_byte at)) (Ok tt)

abbrev pub admitted_at : Bool → ℕ → Result (Unit {0}) Wrong
admitted_at admitted at = cond admitted (Ok tt) (Err (not_admitted at))

-- so many bytes of a kind: the first that is of another kind is wrong
unfoldable pub part_at : ByteKind → ℕ → List ℕ → ℕ → Result Got Wrong
part_at k n body at =
    cond (nat_le n (run k (drop at body)))
    (Ok (given at (take n (drop at body)) ∷ [], at + n))
    (Err (wrong_byte (at + run k (drop at body))))

-- the bytes of a part that was taken
abbrev pub own : Got → List ℕ
own o = bytes_of (slice_index_or o.0 0 missing)

unfoldable pub number_at : ℕ → ℕ → ℕ → List ℕ → ℕ → Result Got Wrong
number_at n low high body at =
    then (part_at Digit n body at) (λ o. cond (between low high (number_of (own o))) (Ok o) (Err (not_admitted at)))

-- so many bytes of a kind, and admitted by the bytes of earlier parts, its own and those behind it
abbrev pub Admits : Type 0
Admits = List (List ℕ) → List ℕ → List ℕ → Bool

abbrev pub chosen_at : ByteKind → ℕ → Admits → List (List ℕ) → List ℕ → ℕ → Result Got Wrong
chosen_at k n admits earlier body at =
    then (part_at k n body at) (λ o. cond (admits earlier (own o) (drop o.1 body)) (Ok o) (Err (not_admitted at)))

-- the place behind the bytes that a text may hold
abbrev pub text_stop : List ℕ → ℕ → ℕ
text_stop body at = at + run Text (drop at body)

-- the bytes from one place to another
abbrev pub span : List ℕ → ℕ → ℕ → List ℕ
span body from to = slice_range body from to

-- a text runs to the body's end
unfoldable pub text_at : List ℕ → ℕ → Result Got Wrong
text_at body at =
    then (end_at body (text_stop body at)) (λ _.
    then (admitted_at (nat_le (text_stop body at - at) longest_text) at) (λ _.
    Ok (given at (span body at (text_stop body at)) ∷ [], text_stop body at)))

-- a link string runs to a comma or to the body's end
abbrev pub stopped_at : List ℕ → ℕ → Result (Unit {0}) Wrong
stopped_at body at = cond (stands (nat_eq 44) body at) (Ok tt) (end_at body at)

unfoldable pub string_at : List ℕ → ℕ → Result ℕ Wrong
string_at body at =
    then (stopped_at body (text_stop body at)) (λ _.
    then (admitted_at (nat_le (text_stop body at - at) longest_text) at) (λ _. Ok (text_stop body at)))

unfoldable pub link_at : List ℕ → ℕ → Result ℕ Wrong
link_at body at = then (number_at 2 1 last_link body at) (λ o. Ok o.1)

unfoldable pub element_at : Listed → List ℕ → ℕ → Result ℕ Wrong
element_at Strings = string_at
element_at Numbers = link_at

-- an element, and as many as `further` behind it, parted by commas
abbrev pub list_at : Listed → ℕ → List ℕ → ℕ → Result ℕ Wrong
list_at list zero body at = element_at list body at
list_at list (suc further) body at =
    then (element_at list body at)
    (λ next. cond (stands (nat_eq 44) body next) (list_at list further body (next + 1)) (Ok next))

unfoldable pub list_part_at : Listed → ℕ → List ℕ → ℕ → Result Got Wrong
list_part_at list further body at =
    then (list_at list further body at) (λ next. Ok (given at (span body at next) ∷ [], next))

-- an option that does not follow its comma is left out, unless no other may follow that comma
abbrev pub left_out : Bool → ℕ → ℕ → Result Got Wrong
left_out last at behind = cond last (Err (wrong_byte behind)) (Ok (missing ∷ [], at))

-- `,`, a letter and a number
unfoldable pub lettered_at : ℕ → ℕ → ℕ → Bool → List ℕ → ℕ → Result Got Wrong
lettered_at letter n high last body at =
    cond (stands (nat_eq 44) body at)
    (cond (stands (nat_eq letter) body (at + 1)) (number_at n 0 high body (at + 1 + 1)) (left_out last at (at + 1)))
    (Ok (missing ∷ [], at))

-- `,`, a sign and digits, which are one part
unfoldable pub signed_at : ℕ → Bool → List ℕ → ℕ → Result Got Wrong
signed_at n last body at =
    cond (stands (nat_eq 44) body at)
    (cond (stands is_sign body (at + 1))
    (then (part_at Digit n body (at + 1 + 1)) (λ o. Ok (given (at + 1) (span body (at + 1) o.1) ∷ [], o.1)))
    (left_out last at (at + 1)))
    (Ok (missing ∷ [], at))

-- nothing, `=` and a text, or `;` and link numbers
abbrev pub as_links : PartSeen → PartSeen
as_links missing = missing
as_links (given p bs) = linked p bs
as_links (linked p bs) = linked p bs

unfoldable pub source_at : ℕ → List ℕ → ℕ → Result Got Wrong
source_at further body at =
    cond (stands (nat_eq 61) body at) (text_at body (at + 1))
    (cond (stands (nat_eq 59) body at)
    (then (list_part_at Numbers further body (at + 1)) (λ o. Ok (map as_links o.0, o.1)))
    (Ok (missing ∷ [], at)))
