-- The log's reference put where it is changes nothing.
use Rattle.std.proofs.Common.{◌≡◌, ℕ, Bool, true, false, cond, List, [], ◌∷◌, Option, Some, None, inl, inr, ⊎_elim, refl, sym, ap, subst, ◌∙◌}
use Rattle.std.specs.Cmp.Lexicographic.{nat_list_cmp_total}
use Rattle.std.specs.FinMap.{get, get-insert, get-remove, insert, nat_cmp-IsAntisymmetric, remove, same_map, slice_cmp-IsAntisymmetric}
use Rattle.std.specs.Ordering.{eq_by_cmp, is_eq}
use Rattle.std.proofs.lemmas.Bool.{true≢false}
use Rattle.octets.specs.BytesMap.{BytesMap, by_bytes}
use Rattle.git_object.specs.Names.{log_name}
use Rattle.git_object.specs.Repository.{Repository}
use Rattle.keeper_api.specs.Changes.{changed, with_ref}
use Rattle.keeper_api.specs.declared.changes.Change.{Change}
use Rattle.keeper_api.specs.declared.keepers.Keeper as keeper
use Rattle.keeper_api.specs.Undisturbed.{Undisturbed}
use Rattle.keeper_api.proofs.Coming.{as_before_then}
use Rattle.keeper_api.specs.Committing.{Gains, MayGain}
use Rattle.desk_turns.specs.States.{Desk}
use Rattle.pushes.specs.Steps.{tip_of}
use Rattle.desk_turns.specs.Settling.{IsSame, KeepsTip, MayKeepTip, Settles, tip_change}
use Rattle.desk_turns.specs.declared.settled.Settled.{Settled}
use Rattle.desk_turns.specs.declared.settled.Settled.TheVariants.{Clear, TookIn, Moved, Fault, Memory}
use Rattle.pushes.proofs.LogGrowth.{same_key}

put_again : (m : BytesMap (List ℕ)) (k v : List ℕ) → get m k ≡ Some v → insert m k v ≡ m
put_again m k v there = same_map nat_list_cmp_total (slice_cmp-IsAntisymmetric nat_cmp-IsAntisymmetric) _ _ (λ q. get-insert nat_list_cmp_total m k v q ∙ by_test q (eq_by_cmp by_bytes q k) refl)
  where
    by_test : (q : List ℕ) (b : Bool) → eq_by_cmp by_bytes q k ≡ b → cond b (Some v) (get m q) ≡ get m q
    by_test q true e = sym (ap (get m) (same_key q k e) ∙ there)
    by_test q false e = refl

gone_again : (m : BytesMap (List ℕ)) (k : List ℕ) → get m k ≡ None → remove m k ≡ m
gone_again m k none = same_map nat_list_cmp_total (slice_cmp-IsAntisymmetric nat_cmp-IsAntisymmetric) _ _ (λ q. get-remove nat_list_cmp_total m k q ∙ by_test q (eq_by_cmp by_bytes q k) refl)
  where
    by_test : (q : List ℕ) (b : Bool) → eq_by_cmp by_bytes q k ≡ b → cond b None (get m q) ≡ get m q
    by_test q true e = sym (ap (get m) (same_key q k e) ∙ none)
    by_test q false e = refl

ref_again : (m : BytesMap (List ℕ)) (value : Option (List ℕ)) → get m log_name ≡ value → with_ref log_name value m ≡ m
ref_again m (Some id) e = put_again m log_name id e
ref_again m None e = gone_again m log_name e

pub nothing_changed : (r : Repository) (value : Option (List ℕ)) → get r.refs log_name ≡ value → changed (tip_change value) r ≡ r
nothing_changed r value e = λ i. record { objects = r.objects; refs = ref_again r.refs value e i }

module _ {R : Type 0} (k : keeper.Ghosts R) (old new : R) (value : Option (List ℕ)) (change : Change) (is : change ≡ tip_change value) (there : (r : Repository) → k.content old ≡ Some r → get r.refs log_name ≡ value) where
  same_after : (r : Repository) → k.content old ≡ Some r → changed change r ≡ r
  same_after r told = ap (λ (c : Change). changed c r) is ∙ nothing_changed r value (there r told)

  pub kept : Gains k old new change → KeepsTip k old new value
  kept gains = record {
    held = λ now t. (let w = gains.held now t in (w.0, w.1, record { value_is = there w.0 w.1; same = w.2 ∙ same_after w.0 w.1 }));
    tells = gains.tells;
    stop = gains.stop;
  }

  pub may_have_kept : MayGain k old new change → MayKeepTip k old new value
  may_have_kept gains = record {
    held = λ now t. (let w = gains.held now t in (w.0, w.1, record { value_is = there w.0 w.1; same = ⊎_elim (λ same. same) (λ made. made ∙ same_after w.0 w.1) w.2 }));
    tells = gains.tells;
    stop = λ tells r left. ⊎_elim (λ past. inl past) (λ was. inr (was.1 ∙ ap Some (sym (was.2 ∙ same_after was.0 was.1)))) (gains.stop tells r left);
  }

-- ---- after reading, by which nothing changed

module _ {R : Type 0} (k : keeper.Ghosts R) (old mid new : R) (first : Undisturbed k old mid) where
  through : Undisturbed k mid new → Undisturbed k old new
  through second = as_before_then k old mid new first second

  keeps_from : (value : Option (List ℕ)) → KeepsTip k mid new value → KeepsTip k old new value
  keeps_from value tip = record {
    held = λ r e. (let w = tip.held r e in (w.0, first.content w.0 w.1, w.2));
    tells = λ t. first.tells (tip.tells t);
    stop = tip.stop;
  }

  may_from : (value : Option (List ℕ)) → MayKeepTip k mid new value → MayKeepTip k old new value
  may_from value tip = record {
    held = λ r e. (let w = tip.held r e in (w.0, first.content w.0 w.1, w.2));
    tells = λ t. first.tells (tip.tells t);
    stop = λ t r left. ⊎_elim (λ past. inl (first.left (tip.tells t) r past)) (λ here. inr (first.content r here)) (tip.stop t r left);
  }

  pub settles_from : (was now : Desk) (settled : Settled) → Settles k mid new was now settled → Settles k old new was now settled
  settles_from was now Clear s = record { state = s.state; store = elim s.store [ inl none ↦ inl (none.0, through none.1) | inr tip ↦ inr (keeps_from (tip_of was.log) tip) ] }
  settles_from was now (TookIn id) s = record { doubt = s.doubt; state = s.state; store = keeps_from (Some id) s.store }
  settles_from was now (Moved found expected) s = record { state = s.state; store = through s.store; expected_is = s.expected_is; found_is = s.found_is; not_tip = s.not_tip; not_doubt = s.not_doubt }
  settles_from was now Fault s = record { state = s.state; store = elim s.store [ inl same ↦ inl (through same) | inr (inl tip) ↦ inr (inl (may_from (tip_of was.log) tip)) | inr (inr tip) ↦ inr (inr (may_from was.doubt tip)) ] }
  settles_from was now Memory s = record { state = s.state; store = through s.store }
