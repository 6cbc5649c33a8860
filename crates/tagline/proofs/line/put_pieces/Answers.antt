use Rattle.std.proofs.Common.{◌<◌, map, length, refl, sym, ap, ◌∙◌, arith, rules}
use Rattle.std.proofs.lemmas.List.{length-map, get_or-map}
use Rattle.fields.specs.Records.{seen_field, blank_field}
use Rattle.tagline.proofs.Pieces.{laid_more}
use Rattle.tagline.proofs.line.put_pieces.Goals as goal

pub loop-i-preserved : goal.loop-i-preserved
loop-i-preserved c =
    let fields = c.args.fields.now in
    let seen = map seen_field fields in
    let i = c.loop-i.i in
    let lt : i < length fields = search rules in
    let here = get_or-map seen_field fields i c.index-fields-i.result blank_field lt
    ∙ ap seen_field (sym c.index-fields-i.is) in
    record {
      laid = laid_more c.args.letter seen c.args.out.now c.loop-i.out c.loop-i.n i c.loop-i.invariant.laid
          (seen_field c.index-fields-i.result) c.put_piece-n.new.out _ c.put_piece-n.result _
          (omega (arith, length-map fields seen_field)) here refl
          c.put_piece-n.ensures.written c.put_piece-n.ensures.short refl;
      inside = omega arith;
    }
