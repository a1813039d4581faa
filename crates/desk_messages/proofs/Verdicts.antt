-- Names of which a verdict may be asked.
use Rattle.std.proofs.Common.{◌≡◌, ℕ, List, Bool, true, false, not, ◌&&◌, refl, sym, ap, ◌∙◌, if◌then◌else◌, bytes_eq}
use Rattle.std.proofs.lemmas.Slice.Eq.{bytes_eq-Decides}
use Rattle.git_object.specs.Names.{IsRefName, is_ref_name, log_name}
use Rattle.git_object.proofs.NameTests.{name_from_test, test_from_name}
use Rattle.desk_messages.specs.Asking.{verify_asked}
use Rattle.desk_messages.specs.declared.requests.Asked.{Asked}
use Rattle.desk_messages.specs.declared.requests.Asked.TheVariants as ask
use Rattle.desk_messages.specs.declared.requests.Refusal.TheVariants as why

not_true : (b : Bool) → (b ≡ true → ⊥) → b ≡ false
not_true true not_so = absurd (not_so refl)
not_true false _ = refl

abbrev asked_if : List ℕ → Bool → Bool → Asked
asked_if name is log = if is && not log then ask.Verify name else ask.Refused why.BadRequest

-- a name that is not the log's own
pub other_name : (name : List ℕ) → IsRefName name → (name ≡ log_name → ⊥) → ask.Verify name ≡ verify_asked name
other_name name is other =
    let named : is_ref_name name ≡ true = test_from_name name is in
    let apart : bytes_eq name log_name ≡ false = not_true (bytes_eq name log_name) (λ same. other ((bytes_eq-Decides name log_name).0 same)) in
    sym (ap (λ (b : Bool). asked_if name b (bytes_eq name log_name)) named ∙ ap (asked_if name true) apart)

-- a text that is no name
pub no_name : (name : List ℕ) → (IsRefName name → ⊥) → ask.Refused why.BadRequest ≡ verify_asked name
no_name name none =
    let bad : is_ref_name name ≡ false = not_true (is_ref_name name) (λ named. none (name_from_test name named)) in
    sym (ap (λ (b : Bool). asked_if name b (bytes_eq name log_name)) bad)
