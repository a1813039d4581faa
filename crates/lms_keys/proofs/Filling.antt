-- A table of nodes that is filled from its end.
use Rattle.std.proofs.Common.{◌≡◌, ◌≢◌, ℕ, ◌+◌, ◌*◌, ◌^◌, ◌<◌, List, [], slice_set, inl, inr, ◌∙◌, arith}
use Rattle.std.proofs.lemmas.Bool.{cases_lt}
use Rattle.std.proofs.lemmas.List.{length-set, get_or-set_same, get_or-set_other}
use Rattle.lmots.specs.declared.ots_type.OtsType.{OtsType}
use Rattle.lms_keys.specs.declared.lms_type.LmsType.{LmsType}
use Rattle.lms_keys.specs.LmsType.{height}
use Rattle.lms_keys.specs.Tree.{tree_node}
use Rattle.lms_keys.specs.Secret.{AreNodesFrom}

pub node_set : (lms : LmsType) (ots : OtsType) (i seed : List ℕ) (nodes : List (List ℕ)) (from node at : ℕ) (value : List ℕ) → from ≡ node + 1 → at ≡ node
    → node < 2 * 2 ^ height lms → value ≡ tree_node ots (height lms) i seed at → AreNodesFrom lms ots i seed nodes from
    → AreNodesFrom lms ots i seed (slice_set nodes at value) node
node_set lms ots i seed nodes from node at value next here inside is held = record {
  long = length-set nodes at value ∙ held.long;
  each = λ r low high.
      elim (cases_lt node r) [
        | inl above ↦
            let ne : r ≢ at = omega arith in
            get_or-set_other nodes at r value [] ne ∙ held.each r (omega arith) high
        | inr below ↦
            let same : r ≡ at = omega arith in
            rw same (get_or-set_same nodes at value [] (omega (arith, held.long)) ∙ is)
      ];
}
