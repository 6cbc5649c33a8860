-- To write nothing appends nothing, and what is written in two pieces is appended whole.
use Rattle.std.proofs.Common.{ℕ, List, [], ◌++◌, Some, None, Option, sym, ap, ◌∙◌, append-nil}
use Rattle.std.proofs.lemmas.List.{append_assoc}
use Rattle.std.specs.Io.KnownBytes.{Appends}

pub appends_none : (known : Option (List ℕ)) → Appends known known []
appends_none None = tt
appends_none (Some xs) = sym (append-nil xs)

pub appends_both : (before between after : Option (List ℕ)) (one other : List ℕ) → Appends before between one
    → Appends between after other → Appends before after (one ++ other)
appends_both None between after one other h k = tt
appends_both (Some xs) None after one other h k = absurd h
appends_both (Some xs) (Some ys) None one other h k = absurd k
appends_both (Some xs) (Some ys) (Some zs) one other h k =
    k ∙ ap (λ (l : List ℕ). l ++ other) h ∙ append_assoc xs one other
