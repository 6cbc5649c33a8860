-- Drawings one after the other.
use Rattle.std.proofs.Common.{◌≡◌, ℕ, ◌+◌, ◌<◌, Bool, List, [], ◌∷◌, ◌++◌, length, get_or, take, sym, refl, ap, ◌∙◌}
use Rattle.std.proofs.lemmas.List.{take_more}
use Rattle.picture.specs.Drawings.{acts}
use Rattle.picture.specs.Picture.{drawn}
use Rattle.picture.specs.declared.drawing.Drawing.{Drawing}

drawn_push : (ds : List Drawing) (d : Drawing) (r c : ℕ) (dot : Bool)
    → drawn (ds ++ d ∷ []) r c dot ≡ acts d r c (drawn ds r c dot)
drawn_push [] d r c dot = refl
drawn_push (e ∷ ds) d r c dot = drawn_push ds d r c (acts e r c dot)

pub drawn_more :
    (ds : List Drawing) (i : ℕ) (d : Drawing) (r c : ℕ) (dot : Bool) → i < length ds
    → acts (get_or ds i d) r c (drawn (take i ds) r c dot) ≡ drawn (take (i + 1) ds) r c dot
drawn_more ds i d r c dot h =
    sym (ap (λ l. drawn l r c dot) (take_more ds i d h) ∙ drawn_push (take i ds) (get_or ds i d) r c dot)
