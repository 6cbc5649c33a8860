-- Pieces written one behind the other.
use Rattle.std.proofs.Common.{◌≡◌, ℕ, ◌+◌, ◌-◌, ◌*◌, ◌<◌, ◌≤◌, List, ◌++◌, length, get_or, take, drop, sym, ap, ◌∙◌, append_assoc, append-nil, arith, length-append}
use Rattle.std.proofs.lemmas.List.{take_at, drop_at, drop_all, drop-drop, take_all, length-drop, at_drop_more, at_drop_all}
use Rattle.fields.specs.Records.{FieldSeen, blank_field}
use Rattle.texts.specs.Finishing.{Put}
use Rattle.tagline.specs.Line.{piece, pieces_from, longest_piece}

-- P put into the k places that F left
pub then_put : (F P W w x v : List ℕ) (n m k : ℕ) → k ≡ length w - n → Put F W w n
    → Put P (take k (drop n w)) x m → v ≡ take n w ++ (x ++ drop k (drop n w)) → Put (F ++ P) W v (n + m)
then_put F P W w x v n m k all f p e =
    let long : length F ≡ n = sym f.0 in
    let left : length (drop n w) ≤ k = omega (arith, length-drop n w, all) in
    let behind : take k (drop n w) ≡ drop n W =
    take_all k (drop n w) left ∙ ap (drop n) f.1 ∙ drop_at F (drop n W) n long in
    let end : x ++ drop k (drop n w) ≡ x = ap (λ l. x ++ l) (drop_all k (drop n w) left) ∙ append-nil x in (
      omega (arith, f.0, p.0, length-append F P),
      e
          ∙ ap (λ l. take n w ++ l) end
          ∙ ap (λ l. l ++ x) (ap (take n) f.1 ∙ take_at F (drop n W) n long)
          ∙ ap (λ l. F ++ l) (p.1 ∙ ap (λ l. P ++ drop m l) behind ∙ ap (λ l. P ++ l) (drop-drop m n W))
          ∙ sym (append_assoc F P (drop (n + m) W)),
    )

pub put_as : (b c W v : List ℕ) (n : ℕ) → b ≡ c → Put b W v n → Put c W v n
put_as b c W v n e p = (p.0 ∙ ap length e, p.1 ∙ ap (λ l. l ++ drop n W) e)

-- the pieces of the first i fields are written, n bytes
pub record Laid (letter : ℕ) (seen : List FieldSeen) (W work : List ℕ) (n i : ℕ) : Type 0 where
  pub done : List ℕ
  pub put : Put done W work n
  pub whole : done ++ pieces_from letter (i + 1) (drop i seen) ≡ pieces_from letter 1 seen
  pub room : n ≤ longest_piece * i

module _ (letter : ℕ) (seen : List FieldSeen) (W work : List ℕ) (n i : ℕ) (inv : Laid letter seen W work n i) where
  pub laid_more : (s : FieldSeen) (x v : List ℕ) (m k : ℕ) → i < length seen → get_or seen i blank_field ≡ s
      → k ≡ length work - n → Put (piece letter (i + 1) s) (take k (drop n work)) x m
      → m ≤ longest_piece → v ≡ take n work ++ (x ++ drop k (drop n work))
      → Laid letter seen W v (n + m) (i + 1)
  laid_more s x v m k lt is all p short e =
      let rest = pieces_from letter (i + 1 + 1) (drop (i + 1) seen) in
      let next : pieces_from letter (i + 1) (drop i seen) ≡ piece letter (i + 1)
      (get_or seen i blank_field) ++ rest = at_drop_more (pieces_from letter
      (i + 1)) seen i blank_field lt in
      record {
        done = inv.done ++ piece letter (i + 1) s;
        put = then_put inv.done (piece letter (i + 1) s) W work x v n m k all inv.put p e;
        whole = append_assoc inv.done (piece letter (i + 1) s) rest
            ∙ ap (λ l. inv.done ++ l) (sym (next ∙ ap (λ y. piece letter (i + 1) y ++ rest) is)) ∙ inv.whole;
        room = omega (arith, inv.room);
      }

  pub laid_all : length seen ≤ i → Put (pieces_from letter 1 seen) W work n
  laid_all end =
      let all : inv.done ≡ pieces_from letter 1 seen =
      sym (append-nil inv.done) ∙ ap (λ l. inv.done ++ l)
      (sym (at_drop_all (pieces_from letter (i + 1)) seen i end)) ∙ inv.whole in
      (inv.put.0 ∙ ap length all, inv.put.1 ∙ ap (λ l. l ++ drop n W) all)
