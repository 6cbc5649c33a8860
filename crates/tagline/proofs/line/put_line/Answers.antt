use Rattle.std.proofs.Common.{◌≡◌, [], ◌∷◌, ◌++◌, map, refl, ap, ◌∙◌, append_assoc}
use Rattle.fields.specs.Records.{seen_field}
use Rattle.tagline.specs.Line.{letter_t, letter_b, pieces_from, line_over}
use Rattle.tagline.proofs.Pieces.{then_put, put_as}
use Rattle.tagline.proofs.line.put_line.Goals as goal

pub returns-clause-written : goal.returns-clause-written
returns-clause-written c =
    let H = c.line_head.result in
    let T = pieces_from letter_t 1 (map seen_field c.args.texts.now) in
    let B = pieces_from letter_b 1 (map seen_field c.args.bars.now) in
    let W = c.args.out.now in
    let texts = then_put H T W c.put-n.new.out c.put_pieces-n.new.out _ c.put-n.result c.put_pieces-n.result
    _ refl c.put-n.ensures c.put_pieces-n.ensures.written refl in
    let bars = then_put (H ++ T) B W _ c.put_pieces-n-2.new.out _ _ c.put_pieces-n-2.result _ refl
    texts c.put_pieces-n-2.ensures.written refl in
    let all = then_put ((H ++ T) ++ B) (10 ∷ []) W _ c.put.new.out _ _ c.put.result _ refl bars c.put.ensures refl in
    let same : ((H ++ T) ++ B) ++ 10 ∷ [] ≡ line_over c.args.number c.args.size
    (map seen_field c.args.texts.now) (map seen_field c.args.bars.now) =
    ap (λ l. l ++ 10 ∷ []) (append_assoc H T B) ∙ append_assoc H (T ++ B) (10 ∷ [])
    ∙ ap (λ l. l ++ ((T ++ B) ++ 10 ∷ [])) c.line_head.ensures in
    put_as _ _ W _ _ same all
