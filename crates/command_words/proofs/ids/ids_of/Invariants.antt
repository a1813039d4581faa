use Rattle.std.proofs.Common.{◌≡◌, take, map}
use Rattle.std.specs.List.{All}
use Rattle.hex.specs.Hex.{encode_lower}
use Rattle.git_object.specs.Ids.{IsId}
use Rattle.command_words.proofs.ids.ids_of.Given as goal

abbrev pub invariant-parts : goal.invariant-parts
invariant-parts g l = record {
  texts : map encode_lower (map g.T.Written.bytes l.ids) ≡ map (λ part. part.now) (take l.part-index l.parts);
  valid : All IsId (map g.T.Written.bytes l.ids);
}
