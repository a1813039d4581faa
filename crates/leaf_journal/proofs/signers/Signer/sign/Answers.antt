use Rattle.std.proofs.Common.{◌≡◌, ◌+◌, List, [], ◌∷◌, ℕ, Some, sym, subst, ap, ◌∙◌}
use Rattle.std.specs.Prelude.{Ok, Err, slice_set}
use Rattle.octets.specs.Content.{Told}
use Rattle.edge_io.specs.Disk.{Torn, Written}
use Rattle.lms_keys.specs.HssSecret.{Secret}
use Rattle.leaf_journal.specs.KeyFile.{KeepsUsed, start_of}
use Rattle.leaf_journal.specs.Runs.{Marks, in_use}
use Rattle.leaf_journal.specs.Signing.{Covers, IsLeast, IsTornImage, Signing, marking}
use Rattle.leaf_journal.proofs.Leaves.{keeps_used_from, marks, torn_covers_from, used_in_all}
use Rattle.leaf_journal.proofs.Moving.{weaker}
use Rattle.leaf_journal.proofs.signers.Signer.sign.Goals as goal

pub returns-in-Err-clause-covers : goal.returns-in-Err-clause-covers
returns-in-Err-clause-covers g c = λ file told.
    let signing : Signing = record { secret = c.self.inside.key; marks = c.self.inside.marks.items } in
    let covers : (file : List ℕ) → g.D.Disk.seen c.args.disk.now ≡ Some file → Covers signing file =
    subst (λ (s : Signing). (file : List ℕ) → g.D.Disk.seen c.args.disk.now ≡ Some file → Covers s file) (sym c.self.view_is) c.requires.covers in
    let least : IsLeast signing.marks c.in-Some.place = subst (λ (m : List ℕ). IsLeast m c.in-Some.place) c.as_slice.ensures.value c.in-Some.ensures.found in
    let was = c.in-Err.ensures.torn file told in
    torn_covers_from c.self.inside.start signing was.0 file c.in-Some.place c.self.invariant.begins least.within c.self.invariant.each (covers was.0 was.1) was.2

pub returns-in-Err-clause-any_moment : goal.returns-in-Err-clause-any_moment
returns-in-Err-clause-any_moment g c =
    let signing : Signing = record { secret = c.self.inside.key; marks = c.self.inside.marks.items } in
    let covers : (file : List ℕ) → g.D.Disk.seen c.args.disk.now ≡ Some file → Covers signing file =
    subst (λ (s : Signing). (file : List ℕ) → g.D.Disk.seen c.args.disk.now ≡ Some file → Covers s file) (sym c.self.view_is) c.requires.covers in
    let least : IsLeast signing.marks c.in-Some.place = subst (λ (m : List ℕ). IsLeast m c.in-Some.place) c.as_slice.ensures.value c.in-Some.ensures.found in
    weaker g.D.Disk.moment g.D.Disk.left_since c.args.disk.now c.write_leaf.new.disk
    (IsTornImage (c.self.inside.start + c.in-Some.place) 1 (g.D.Disk.may_leave c.args.disk.now)) (KeepsUsed (g.D.Disk.may_leave c.args.disk.now))
    (keeps_used_from c.self.inside.start signing c.in-Some.place (g.D.Disk.seen c.args.disk.now) (g.D.Disk.may_leave c.args.disk.now) c.self.invariant.begins least c.self.invariant.each covers
    (g.met.D.Disk.seen_may_stay c.args.disk.now) (g.met.D.Disk.told c.args.disk.now)) c.in-Err.ensures.any_moment

pub returns-in-Err-clause-lost : goal.returns-in-Err-clause-lost
returns-in-Err-clause-lost g c = λ is file told.
    let signing : Signing = record { secret = c.self.inside.key; marks = c.self.inside.marks.items } in
    let covers : (file : List ℕ) → g.D.Disk.seen c.args.disk.now ≡ Some file → Covers signing file =
    subst (λ (s : Signing). (file : List ℕ) → g.D.Disk.seen c.args.disk.now ≡ Some file → Covers s file) (sym c.self.view_is) c.requires.covers in
    let least : IsLeast signing.marks c.in-Some.place = subst (λ (m : List ℕ). IsLeast m c.in-Some.place) c.as_slice.ensures.value c.in-Some.ensures.found in
    let run = returns-in-Err-clause-any_moment g c in
    let step : Marks (in_use g.D.Disk) c.args.disk.now c.write_leaf.new.disk signing.marks c.in-Some.place =
    marks g.D.Disk.may_leave c.args.disk.now c.write_leaf.new.disk file signing c.in-Some.place least c.self.invariant.each
    (λ image may. run.each image (g.met.D.Disk.counts_now c.write_leaf.new.disk (g.D.Disk.moment c.args.disk.now) image run.later may))
    (g.met.D.Disk.seen_may_stay c.write_leaf.new.disk file told) (returns-in-Err-clause-covers g c file told) in
    let here : Marks (in_use g.D.Disk) c.args.disk.now c.write_leaf.new.disk c.args.self.now.marks c.in-Some.place =
    subst (λ (s : Signing). Marks (in_use g.D.Disk) c.args.disk.now c.write_leaf.new.disk s.marks c.in-Some.place) c.self.view_is step in
    (c.in-Some.place, here)

pub returns-in-Err-clause-failed : goal.returns-in-Err-clause-failed
returns-in-Err-clause-failed g c = λ is.
    let begins : c.self.inside.start ≡ start_of c.args.self.now.secret.below = c.self.invariant.begins ∙ ap (λ (s : Signing). start_of s.secret.below) c.self.view_is in
    let signing : Signing = record { secret = c.self.inside.key; marks = c.self.inside.marks.items } in
    let here : IsLeast signing.marks c.in-Some.place = subst (λ (m : List ℕ). IsLeast m c.in-Some.place) c.as_slice.ensures.value c.in-Some.ensures.found in
    let least : IsLeast c.args.self.now.marks c.in-Some.place = subst (λ (s : Signing). IsLeast s.marks c.in-Some.place) c.self.view_is here in (
      c.in-Some.place,
      least,
      ap (λ (s : Signing). marking s c.in-Some.place) c.self.view_is,
      subst (λ (n : ℕ). Told (Torn (n + c.in-Some.place) 1) (g.D.Disk.seen c.args.disk.now) (g.D.Disk.seen c.write_leaf.new.disk)) begins c.in-Err.ensures.torn,
    )

signed_or_not : {T E : Type 0} (x : T) (e : E) → Ok x ≡ Err e → ⊥
signed_or_not x e same = cc

pub returns-clause-exhausted : goal.returns-clause-exhausted
returns-clause-exhausted g c =
    let signing : Signing = record { secret = c.self.inside.key; marks = c.self.inside.marks.items } in
    let here : IsLeast signing.marks c.in-Some.place = subst (λ (m : List ℕ). IsLeast m c.in-Some.place) c.as_slice.ensures.value c.in-Some.ensures.found in
    let least : IsLeast c.args.self.now.marks c.in-Some.place = subst (λ (s : Signing). IsLeast s.marks c.in-Some.place) c.self.view_is here in
    ((λ is. absurd (signed_or_not _ _ is)), (λ all. absurd (all c.in-Some.place least.within least.free)))

pub returns-clause-covers : goal.returns-clause-covers
returns-clause-covers g c = λ file told.
    let signing : Signing = record { secret = c.self.inside.key; marks = c.self.inside.marks.items } in
    let covers : (file : List ℕ) → g.D.Disk.seen c.args.disk.now ≡ Some file → Covers signing file =
    subst (λ (s : Signing). (file : List ℕ) → g.D.Disk.seen c.args.disk.now ≡ Some file → Covers s file) (sym c.self.view_is) c.requires.covers in
    let least : IsLeast signing.marks c.in-Some.place = subst (λ (m : List ℕ). IsLeast m c.in-Some.place) c.as_slice.ensures.value c.in-Some.ensures.found in
    let was = c.in-Ok.ensures.torn file told in
    subst (λ (k : Secret). Covers (record { secret = k; marks = slice_set c.self.inside.marks.items c.in-Some.place 1 }) file) (sym c.sign_at.ensures.same)
    (torn_covers_from c.self.inside.start signing was.0 file c.in-Some.place c.self.invariant.begins least.within c.self.invariant.each (covers was.0 was.1) was.2)

pub returns-clause-written : goal.returns-clause-written
returns-clause-written g c =
    let begins : c.self.inside.start ≡ start_of c.args.self.now.secret.below = c.self.invariant.begins ∙ ap (λ (s : Signing). start_of s.secret.below) c.self.view_is in
    subst (λ (n : ℕ). Told (Written (n + c.in-Some.place) (1 ∷ [])) (g.D.Disk.seen c.args.disk.now) (g.D.Disk.seen c.write_leaf.new.disk)) begins c.in-Ok.ensures.written

pub returns-clause-used : goal.returns-clause-used
returns-clause-used g c =
    let signing : Signing = record { secret = c.self.inside.key; marks = c.self.inside.marks.items } in
    used_in_all c.self.inside.start signing (g.D.Disk.may_leave c.write_leaf.new.disk) (g.D.Disk.seen c.args.disk.now) (g.D.Disk.seen c.write_leaf.new.disk) c.in-Some.place c.self.invariant.begins
    c.in-Ok.ensures.only (g.met.D.Disk.told c.write_leaf.new.disk)
    (λ file told. subst (λ (k : Secret). Covers (record { secret = k; marks = slice_set c.self.inside.marks.items c.in-Some.place 1 }) file) c.sign_at.ensures.same (returns-clause-covers g c file told)) c.in-Ok.ensures.written

pub returns-clause-any_moment : goal.returns-clause-any_moment
returns-clause-any_moment g c =
    let signing : Signing = record { secret = c.self.inside.key; marks = c.self.inside.marks.items } in
    let covers : (file : List ℕ) → g.D.Disk.seen c.args.disk.now ≡ Some file → Covers signing file =
    subst (λ (s : Signing). (file : List ℕ) → g.D.Disk.seen c.args.disk.now ≡ Some file → Covers s file) (sym c.self.view_is) c.requires.covers in
    let least : IsLeast signing.marks c.in-Some.place = subst (λ (m : List ℕ). IsLeast m c.in-Some.place) c.as_slice.ensures.value c.in-Some.ensures.found in
    weaker g.D.Disk.moment g.D.Disk.left_since c.args.disk.now c.write_leaf.new.disk
    (IsTornImage (c.self.inside.start + c.in-Some.place) 1 (g.D.Disk.may_leave c.args.disk.now)) (KeepsUsed (g.D.Disk.may_leave c.args.disk.now))
    (keeps_used_from c.self.inside.start signing c.in-Some.place (g.D.Disk.seen c.args.disk.now) (g.D.Disk.may_leave c.args.disk.now) c.self.invariant.begins least c.self.invariant.each covers
    (g.met.D.Disk.seen_may_stay c.args.disk.now) (g.met.D.Disk.told c.args.disk.now)) c.in-Ok.ensures.any_moment

pub returns-clause-released : goal.returns-clause-released
returns-clause-released g c = λ file told.
    let signing : Signing = record { secret = c.self.inside.key; marks = c.self.inside.marks.items } in
    let covers : (file : List ℕ) → g.D.Disk.seen c.args.disk.now ≡ Some file → Covers signing file =
    subst (λ (s : Signing). (file : List ℕ) → g.D.Disk.seen c.args.disk.now ≡ Some file → Covers s file) (sym c.self.view_is) c.requires.covers in
    let least : IsLeast signing.marks c.in-Some.place = subst (λ (m : List ℕ). IsLeast m c.in-Some.place) c.as_slice.ensures.value c.in-Some.ensures.found in
    let run = returns-clause-any_moment g c in
    let step : Marks (in_use g.D.Disk) c.args.disk.now c.write_leaf.new.disk signing.marks c.in-Some.place =
    marks g.D.Disk.may_leave c.args.disk.now c.write_leaf.new.disk file signing c.in-Some.place least c.self.invariant.each
    (λ image may. run.each image (g.met.D.Disk.counts_now c.write_leaf.new.disk (g.D.Disk.moment c.args.disk.now) image run.later may))
    (g.met.D.Disk.seen_may_stay c.write_leaf.new.disk file told) (subst (λ (k : Secret). Covers (record { secret = k; marks = slice_set c.self.inside.marks.items c.in-Some.place 1 }) file) c.sign_at.ensures.same (returns-clause-covers g c file told)) in
    let here : Marks (in_use g.D.Disk) c.args.disk.now c.write_leaf.new.disk c.args.self.now.marks c.in-Some.place =
    subst (λ (s : Signing). Marks (in_use g.D.Disk) c.args.disk.now c.write_leaf.new.disk s.marks c.in-Some.place) c.self.view_is step in
    record { marking = here; used = returns-clause-used g c }
