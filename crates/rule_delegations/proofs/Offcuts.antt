-- Files that are not marked are those that are cut off.
use Rattle.std.proofs.Common.{◌≡◌, ◌⊎◌, ◌+◌, ◌&&◌, ◌||◌, ◌<◌, ℕ, Bool, true, false, not, List, Option, Some, refl, sym, ap, subst, ◌∙◌, inl, inr, arith, length, get_or}
use Rattle.std.specs.Prelude.{slice_get, slice_index_or, ◌↔◌, IsSome}
use Rattle.std.specs.BTreeSet.{BTreeSet, contains, IsLowerBound}
use Rattle.std.specs.Str.{bytes_eq}
use Rattle.std.proofs.lemmas.Bool.{cases_lt, false≢true}
use Rattle.std.proofs.lemmas.Option.{slice_get_read}
use Rattle.std.proofs.lemmas.Slice.Eq.{bytes_eq-Decides}
use Rattle.octets.specs.BytesMap.{by_bytes}
use Rattle.rule_files.specs.declared.rules.RuleFile.{RuleFile}
use Rattle.rule_delegations.specs.Assembling.{IsCutOff, IsFirstName, IsOnChain}
use Rattle.rule_delegations.specs.Chains.{IsNamed, last_place}
use Rattle.rule_delegations.specs.Forests.{AreDistinct}
use Rattle.rule_delegations.specs.Marks.{AreMarked, IsComeUpon, IsMarked}
use Rattle.rule_delegations.proofs.Naming.{named_there, there_named}
use Rattle.rule_delegations.proofs.Searched.{found_less}
use Rattle.rule_delegations.proofs.Seeing.{first_of_set}
use Rattle.rule_delegations.proofs.Spreading.{link_rule, rule_link}

-- an unmarked file before this place has the name
pub record IsOff (files : List RuleFile) (marks : List Bool) (end : ℕ) (name : List ℕ) : Type 0 where
  pub at : ℕ
  pub early : at < end
  pub is : IsNamed files at name
  pub unmarked : IsMarked marks at → ⊥

module _ (files : List RuleFile) (marks : List Bool) where
  marked_or : (was marked same : Bool) → (was || (not marked && same)) ≡ true → (was ≡ true) ⊎ ((marked ≡ false) × (same ≡ true))
  marked_or true marked same e = inl refl
  marked_or false true same e = absurd (false≢true e)
  marked_or false false same e = inr (refl, e)

  or_marked : (was marked same : Bool) → (was ≡ true) ⊎ ((marked ≡ false) × (same ≡ true)) → (was || (not marked && same)) ≡ true
  or_marked true marked same e = refl
  or_marked false marked same e = elim e [ inl was ↦ absurd (false≢true was) | inr new ↦ rw (new.0, new.1) refl ]

  no_mark : (b : Bool) → (b ≡ true → ⊥) → b ≡ false
  no_mark true never = absurd (never refl)
  no_mark false never = refl

  pub off_more : (old new : BTreeSet (List ℕ)) (at : ℕ) (file : RuleFile) (marked : Bool) → at < length files → file ≡ get_or files at file → marked ≡ slice_index_or marks at false
      → ((q : List ℕ) → contains by_bytes new q ≡ (contains by_bytes old q || (not marked && bytes_eq q file.name)))
      → ((q : List ℕ) → (contains by_bytes old q ≡ true) ↔ IsOff files marks at q) → (q : List ℕ) → (contains by_bytes new q ≡ true) ↔ IsOff files marks (at + 1) q
  off_more old new at file marked less is mark put before q = (
    λ has. elim (marked_or (contains by_bytes old q) marked (bytes_eq q file.name) (sym (put q) ∙ has)) [
      | inl was ↦ let off = (before q).0 was in record { at = off.at; early = let e = off.early in omega (arith, e); is = off.is; unmarked = off.unmarked }
      | inr now ↦ record {
        at = at;
        early = omega arith;
        is = record { file = file; is = slice_get_read files _ at file refl less is; named = sym ((bytes_eq-Decides q file.name).0 now.1) };
        unmarked = λ m. false≢true (sym now.0 ∙ mark ∙ m);
      }
    ],
    λ off. put q ∙ or_marked (contains by_bytes old q) marked (bytes_eq q file.name) (elim (cases_lt off.at at) [
      | inl earlier ↦ inl ((before q).1 (record { at = off.at; early = earlier; is = off.is; unmarked = off.unmarked }))
      | inr last ↦
          let same : off.at ≡ at = let e = off.early in omega (arith, e, last) in
          let one : off.is.file ≡ file =
          let read = slice_get_read files _ at file refl less is in let e : Some off.is.file ≡ Some file = sym off.is.is ∙ ap (slice_get files) same ∙ read in cc in
          let named : q ≡ file.name = sym off.is.named ∙ ap (λ (f : RuleFile). f.name) one in
          inr (mark ∙ no_mark _ (λ m. off.unmarked (ap (λ (n : ℕ). slice_index_or marks n false) same ∙ m)), (bytes_eq-Decides q file.name).1 named)
    ]),
  )

  module _ (distinct : AreDistinct files) (are : AreMarked files marks) where
    on_chain : (at : ℕ) (name : List ℕ) → IsNamed files at name → IsOnChain files name → IsComeUpon files at
    on_chain at name named on =
        inr (on.chain, on.is_chain, rule_link files (last_place on.chain) on.rule on.last ∙ there_named files on.rule.name at distinct (record { file = named.file; is = named.is; named = named.named ∙ sym on.named }))

    come_on_chain : (at : ℕ) (name : List ℕ) → 0 < at → IsNamed files at name → IsComeUpon files at → IsOnChain files name
    come_on_chain at name below named come = elim come [
      | inl top ↦ absurd (omega (arith, top, below))
      | inr some ↦
          let (chain, leads, link) = some in
          let found = link_rule files (last_place chain) at link in
          let other = named_there files found.rule.name at found.below in
          let one : other.file ≡ named.file = let a = other.is in let b = named.is in cc in
          record { chain = chain; is_chain = leads; rule = found.rule; last = found.is; named = sym other.named ∙ ap (λ (f : RuleFile). f.name) one ∙ named.named }
    ]

    pub off_cut : (name : List ℕ) → IsOff files marks (length files) name → IsCutOff files name
    off_cut name off = record {
      at = off.at;
      is = off.is;
      below = elim (cases_lt 0 off.at) [ inl more ↦ more | inr top ↦ absurd (off.unmarked (are.all off.at (inl (omega (arith, top))))) ];
      off = λ on. off.unmarked (are.all off.at (on_chain off.at name off.is on));
    }

    pub cut_off : (name : List ℕ) → IsCutOff files name → IsOff files marks (length files) name
    cut_off name cut = record {
      at = cut.at;
      early = found_less files cut.at cut.is.file cut.is.is;
      is = cut.is;
      unmarked = λ m. cut.off (come_on_chain cut.at name cut.below cut.is (are.marked cut.at m));
    }

    pub first_cut : (names : BTreeSet (List ℕ)) (at : ℕ) (first : Option (List ℕ)) → length files ≡ at → ((q : List ℕ) → (contains by_bytes names q ≡ true) ↔ IsOff files marks at q)
        → (0 < length names.keys → IsSome first) → ((name : List ℕ) → first ≡ Some name → contains by_bytes names name ≡ true) → ((name : List ℕ) → first ≡ Some name → IsLowerBound by_bytes names name)
        → IsFirstName (IsCutOff files) first
    first_cut names at first end off some member least =
        first_of_set (IsCutOff files) names first (λ q has. off_cut q (subst (λ (n : ℕ). IsOff files marks n q) (sym end) ((off q).0 has))) (λ q cut. (off q).1 (subst (λ (n : ℕ). IsOff files marks n q) end (cut_off q cut))) some member least
