-- The plain words of `verify-global` ask for it.
use Rattle.std.proofs.Common.{◌≡◌, ◌≢◌, ℕ, List, [], ◌∷◌, refl, sym, subst}
use Rattle.std.specs.Prelude.{Option, Some, None, codes}
use Rattle.clap.specs.Faults.{defaults_fault, flags_fault, walk_fault}
use Rattle.clap.specs.Walk.{walked}
use Rattle.git_object.specs.Names.{IsRefName, log_name}
use Rattle.git_object.specs.References.{policy_name}
use Rattle.command_words.specs.Commands.{AsksGlobal, IsRoot, verify_global_app}
use Rattle.command_words.specs.Grammars.{Takes, value_of}
use Rattle.command_words.proofs.LetterFirst.{letter_first}

taken : (rest : List ℕ) → Takes verify_global_app ((114 ∷ rest) ∷ [])
unfolding walk_fault walked flags_fault defaults_fault
taken rest = refl

given : (rest : List ℕ) → value_of verify_global_app (codes "ref") ((114 ∷ rest) ∷ []) ≡ Some (114 ∷ rest)
unfolding walked
given rest = refl

no_root : (rest : List ℕ) → value_of verify_global_app (codes "root") ((114 ∷ rest) ∷ []) ≡ None
unfolding walked
no_root rest = refl

pub global_asks : (name : List ℕ) → IsRefName name → name ≢ log_name → name ≢ policy_name → AsksGlobal name None (name ∷ [])
global_asks name is not_log not_policy =
    let begins = letter_first name is in
    subst (λ (n : List ℕ). IsRefName n → n ≢ log_name → n ≢ policy_name → AsksGlobal n None (n ∷ [])) (sym begins.1)
    (λ is_name other another. record {
      takes = taken begins.0;
      named = record { asked = record { is = given begins.0; is_name = is_name; not_log = other }; not_policy = another };
      anchor = subst (λ (root : Option (List ℕ)). IsRoot root None) (sym (no_root begins.0)) tt;
    }) is not_log not_policy
