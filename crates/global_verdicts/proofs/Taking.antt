-- A log that is judged with one entry more.
use Rattle.std.proofs.Common.{◌≡◌, ◌++◌, ℕ, Bool, true, false, cond, List, [], ◌∷◌, Option, None, refl, ap, sym, subst, ◌∙◌}
use Rattle.std.specs.Prelude.{not, unwrap_or}
use Rattle.std.specs.Str.{bytes_eq}
use Rattle.std.proofs.lemmas.Bool.{and_parts, true≢false}
use Rattle.std.proofs.lemmas.Slice.Eq.{bytes_eq-Decides}
use Rattle.git_object.specs.References.{policy_name}
use Rattle.git_object.specs.Repository.{Repository}
use Rattle.rsl_chain.specs.Entries.{Taken, is_of}
use Rattle.rsl_chain.specs.declared.entries.EntryBody.{EntryBody}
use Rattle.rsl_chain.specs.declared.entries.EntryBody.TheVariants.{Annotation, Reference}
use Rattle.judging.specs.Logs.{from, last_signers, opened, policy_after}
use Rattle.judging.specs.Rules.{Rules}
use Rattle.judging.specs.Verdicts.{verdict_of}
use Rattle.judging.specs.declared.verdicts.EntryVerdict.{EntryVerdict}
use Rattle.judging.proofs.Takes.{policy_push, signers_push}
use Rattle.policy_epochs.specs.declared.policies.Policy.{Policy}
use Rattle.entry_rules.specs.RealRules.{real_rules}
use Rattle.entry_rules.specs.declared.faults.Fault.{Fault}
use Rattle.verify_ref.specs.Following.{TakesOne}
use Rattle.global_rules.specs.declared.found_files.FoundFile.{FoundFile}
use Rattle.global_rules.specs.declared.whys.GlobalWhy.{GlobalWhy}
use Rattle.global_verdicts.specs.InForce.{found_after, opened_found}
use Rattle.global_verdicts.specs.Passing.{StandsFor}
use Rattle.global_verdicts.specs.Rows.{AreRows, IsRowBy, IsRowOf, IsUnder, change_by, is_judged}
use Rattle.global_verdicts.specs.declared.pass.Pass.{Pass}
use Rattle.global_verdicts.specs.declared.rows.Row.{Row}
use Rattle.global_verdicts.proofs.Founds.{found_push}
use Rattle.global_verdicts.proofs.Rowed.{rows_push}

isnt : (b : Bool) → not b ≡ true → b ≡ false
isnt true e = absurd (cc e)
isnt false e = refl

-- an entry that is judged is none of the policy's
not_policys : (name : List ℕ) (body : EntryBody) → is_judged name body ≡ true → is_of body policy_name ≡ false
not_policys name (Reference other target) judged =
    let parts = and_parts (bytes_eq other name) (not (bytes_eq name policy_name)) judged in
    ap (λ (x : List ℕ). bytes_eq x policy_name) ((bytes_eq-Decides other name).0 parts.0) ∙ isnt (bytes_eq name policy_name) parts.1
not_policys name (Annotation ids skip message) judged = refl

-- ---- the row of an entry that is judged, and of another
module _ (r : Repository) (name : List ℕ) (policy : Option Policy) (found : FoundFile) (stood : List ℕ) (signers : List (List ℕ)) (body : EntryBody) (own : Bool) (is_own : own ≡ is_of body name) where
  pub row_judged : (why : Option GlobalWhy) → is_judged name body ≡ true → IsUnder r policy found (change_by name stood signers body) why → IsRowBy r name policy found stood signers body (record { own = own; why = why })
  row_judged why judged under = record { own = is_own; why = record { judged = λ _. under; other = λ not. absurd (true≢false (sym judged ∙ not)) } }

  pub row_other : is_judged name body ≡ false → IsRowBy r name policy found stood signers body (record { own = own; why = None })
  row_other not = record { own = is_own; why = record { judged = λ judged. absurd (true≢false (sym judged ∙ not)); other = λ _. refl } }

module _ (rules : Rules Policy Fault) (log : List Taken) (t : Taken) (name : List ℕ) where
  same_policy : is_judged name t.entry.body ≡ true → policy_after rules (log ++ t ∷ []) ≡ policy_after rules log
  same_policy judged =
      policy_push rules log t
      ∙ ap (λ (b : Bool). cond b (opened rules (policy_after rules log) (rules.epoch t.repository (policy_after rules log) t.entry)) (policy_after rules log)) (not_policys name t.entry.body judged)

  row_is : (found : FoundFile) (stood : List ℕ) (row : Row) → found ≡ found_after rules log → stood ≡ from rules log name
      → IsRowBy t.repository name (policy_after rules (log ++ t ∷ [])) found stood (last_signers rules (log ++ t ∷ [])) t.entry.body row → IsRowOf rules name log t row
  row_is found stood row is there by = record {
    own = by.own;
    why = record {
      judged = λ judged.
          let first = by.why.judged judged in
          let second = subst (λ (p : Option Policy). IsUnder t.repository p found (change_by name stood (last_signers rules (log ++ t ∷ [])) t.entry.body) row.why) (same_policy judged) first in
          let third = subst (λ (f : FoundFile). IsUnder t.repository (policy_after rules log) f (change_by name stood (last_signers rules (log ++ t ∷ [])) t.entry.body) row.why) is second in
          let fourth = subst (λ (s : List ℕ). IsUnder t.repository (policy_after rules log) (found_after rules log) (change_by name s (last_signers rules (log ++ t ∷ [])) t.entry.body) row.why) there third in
          subst (λ (ids : List (List ℕ)). IsUnder t.repository (policy_after rules log) (found_after rules log) (change_by name (from rules log name) ids t.entry.body) row.why) (signers_push rules log t) fourth;
      other = by.why.other;
    };
  }

-- what was found of an entry, and what became of the log that is judged
pub record IsFound (log : List Taken) (t : Taken) (was now : Pass) (stood : List ℕ) (verdict : EntryVerdict Fault) (row : Row) : Type 0 where
  pub rules : now.engine.rules ≡ was.engine.rules
  pub name : now.name ≡ was.name
  pub takes : TakesOne log t now.engine verdict
  pub stood_is : stood ≡ from (real_rules was.engine.rules.anchor) log was.name
  pub found : now.file ≡ unwrap_or (opened_found t.repository (policy_after (real_rules now.engine.rules.anchor) (log ++ t ∷ [])) t.entry.body verdict) was.file
  pub row_by : IsRowBy t.repository was.name (policy_after (real_rules now.engine.rules.anchor) (log ++ t ∷ [])) was.file stood (last_signers (real_rules now.engine.rules.anchor) (log ++ t ∷ [])) t.entry.body row
  pub rows : now.rows ≡ was.rows ++ row ∷ []

pub stands_more : (log : List Taken) (t : Taken) (was now : Pass) (stood : List ℕ) (verdict : EntryVerdict Fault) (row : Row) → StandsFor log was → IsFound log t was now stood verdict row → StandsFor (log ++ t ∷ []) now
stands_more log t was now stood verdict row stands found =
    let anchor = now.engine.rules.anchor in
    let same : was.engine.rules.anchor ≡ anchor = sym (ap (λ rules. rules.anchor) found.rules) in
    let file : was.file ≡ found_after (real_rules anchor) log = stands.found ∙ ap (λ (a : Option (List (List ℕ))). found_after (real_rules a) log) same in
    let there : stood ≡ from (real_rules anchor) log was.name = found.stood_is ∙ ap (λ (a : Option (List (List ℕ))). from (real_rules a) log was.name) same in
    let rows : AreRows (real_rules anchor) was.name [] log was.rows = subst (λ (a : Option (List (List ℕ))). AreRows (real_rules a) was.name [] log was.rows) same stands.rows in
    let one = row_is (real_rules anchor) log t was.name was.file stood row file there found.row_by in
    let more = rows_push (real_rules anchor) was.name [] log t was.rows row rows one in
    let named = subst (λ (n : List ℕ). AreRows (real_rules anchor) n [] (log ++ t ∷ []) (was.rows ++ row ∷ [])) (sym found.name) more in
    record {
      follows = found.takes.follows;
      found = found.found
          ∙ ap (λ (v : EntryVerdict Fault). unwrap_or (opened_found t.repository (policy_after (real_rules anchor) (log ++ t ∷ [])) t.entry.body v) was.file) found.takes.answer
          ∙ ap (λ (f : FoundFile). unwrap_or (opened_found t.repository (policy_after (real_rules anchor) (log ++ t ∷ [])) t.entry.body (verdict_of (real_rules anchor) log t)) f) file
          ∙ sym (found_push (real_rules anchor) log t);
      rows = subst (λ (xs : List Row). AreRows (real_rules anchor) now.name [] (log ++ t ∷ []) xs) (sym found.rows) named;
    }
