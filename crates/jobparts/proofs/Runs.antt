-- Facts on runs of bytes of one kind.
use Rattle.std.proofs.Common.{◌≡◌, ℕ, zero, suc, ◌+◌, ◌≤◌, min, Bool, true, false, cond, List, [], ◌∷◌, length, take, ap, ◌∙◌, arith}
use Rattle.std.specs.List.{prefix_len}
use Rattle.std.proofs.lemmas.Bool.{cond_both}
use Rattle.std.proofs.lemmas.List.Folds.{length-prefix_len}
use Rattle.jobparts.specs.Kinds.{run, of_kind}
use Rattle.jobparts.specs.declared.part.ByteKind.{ByteKind}

pub run_le : (k : ByteKind) (bs : List ℕ) → run k bs ≤ length bs
run_le k [] = omega arith
run_le k (b ∷ bs) =
    let le = run_le k bs in
    cond_both (of_kind k b) (1 + run k bs) 0 (λ n. n ≤ length (b ∷ bs)) (λ _. omega arith) (λ _. omega arith)

one_on : (t : Bool) (m n : ℕ) → cond t (1 + min m n) 0 ≡ min (suc m) (cond t (1 + n) 0)
one_on true m n = omega arith
one_on false m n = omega arith

prefix_is : (k : ByteKind) (most : ℕ) (bs : List ℕ) → prefix_len (of_kind k) (take most bs) ≡ min most (run k bs)
prefix_is k zero bs = omega arith
prefix_is k (suc most) [] = omega arith
prefix_is k (suc most) (b ∷ bs) =
    ap (λ n. cond (of_kind k b) (1 + n) 0) (prefix_is k most bs) ∙ one_on (of_kind k b) most (run k bs)

-- how many of the first bytes are taken while they are of a kind
pub run_is : (k : ByteKind) (most : ℕ) (bs : List ℕ)
    → length (take (prefix_len (of_kind k) (take most bs)) (take most bs)) ≡ min most (run k bs)
run_is k most bs = length-prefix_len (of_kind k) (take most bs) ∙ prefix_is k most bs
