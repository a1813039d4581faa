-- Pieces that are read one after the other into a buffer.
use Rattle.std.proofs.Common.{◌≡◌, ◌+◌, ℕ, List, [], ◌++◌, Option, Some, None, refl, sym, ap, ◌∙◌, length, take}
use Rattle.std.proofs.Math.Seq.{take-append-add}
use Rattle.octets.specs.Content.{with_front}
use Rattle.edge_io.proofs.Taken.{with_fronts}

-- a piece was read behind those before
pub piece_read : (before mid now : Option (List ℕ)) (buf front space : List ℕ) (len count : ℕ) → before ≡ with_front (take len buf) mid → mid ≡ with_front (take count space) now
    → front ≡ take len buf → length front ≡ len → before ≡ with_front (take (len + count) (front ++ space)) now
piece_read before mid now buf front space len count read piece is at =
    let joined : take len buf ++ take count space ≡ take (len + count) (front ++ space) =
    ap (λ (f : List ℕ). f ++ take count space) (sym is) ∙ sym (take-append-add front space count) ∙ ap (λ (k : ℕ). take (k + count) (front ++ space)) at in
    read ∙ ap (with_front (take len buf)) piece ∙ with_fronts (take len buf) (take count space) now ∙ ap (λ (b : List ℕ). with_front b now) joined

-- nothing was read
pub with_nothing : (told : Option (List ℕ)) → told ≡ with_front [] told
with_nothing None = refl
with_nothing (Some rest) = refl
