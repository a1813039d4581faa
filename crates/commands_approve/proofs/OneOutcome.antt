-- `approve` comes to one outcome at most.
use Rattle.std.proofs.Common.{◌≡◌, ◌∙◌, ℕ, List, [], ap, arith, refl, subst, sym, ⊎_elim}
use Rattle.std.proofs.lemmas.Bool.{true≢false}
use Rattle.std.specs.Prelude.{None, Result, Ok, Err, replicate, slice_index}
use Rattle.std.specs.FinMap.{get}
use Rattle.std.proofs.lemmas.List.{length-replicate, places}
use Rattle.git_object.specs.Names.{log_name}
use Rattle.git_object.specs.Repository.{Repository, value_of}
use Rattle.rsl_chain.specs.Entries.{Taken}
use Rattle.hex.specs.Hex.{IsBytes}
use Rattle.lms_keys.specs.HssSecret.{Secret, signature_len}
use Rattle.leaf_journal.specs.KeyFile.{IsKeyFile}
use Rattle.judging.specs.Logs.{from}
use Rattle.tree_paths.specs.declared.states.State.{State}
use Rattle.tree_paths.specs.declared.states.State.TheVariants as state
use Rattle.rsl_chain.specs.Chain.{NeverBoth, OneBreak, OneLog}
use Rattle.rsl_chain.specs.Logs.{IsLogOf, heads_of}
use Rattle.entry_rules.specs.RealRules.{real_rules}
use Rattle.verify_ref.proofs.OneVerdict.{same_entries}
use Rattle.dsse_envelope.specs.declared.envelope.Envelope.{Envelope}
use Rattle.leaf_journal.proofs.OneKeyFile.{not_both, not_spent, one_key}
use Rattle.log_appending.specs.declared.appending.AppendFault.TheVariants as append
use Rattle.log_appending.specs.declared.opening.ReadingFault.TheVariants as reading
use Rattle.log_appending.specs.declared.telling.RecordFault.TheVariants.{Unread, BreakUntold, Unappended, SinkFailed}
use Rattle.approvals.specs.Payloads.{payload_text}
use Rattle.approvals.specs.Lookups.{approval_at}
use Rattle.git_object.specs.References.{attestations_name}
use Rattle.approvals.specs.Sites.{IsInWayOf}
use Rattle.commands_approve.specs.Ends.{ComesFrom, IsBrokenAt, TreeIs, state_in}
use Rattle.commands_approve.specs.Outcomes.{ApproveComes, BehindLog, IsOpen}
use Rattle.commands_approve.specs.Wanted.{HasNoPlace, HasRoom, HasWanted, IsFree, IsFull, IsInWay, IsOverlong, IsTooLong, IsUnreadable, IsWanted, approval_or}
use Rattle.commands_approve.specs.declared.approving.ApproveFault.{ApproveFault}
use Rattle.commands_approve.specs.declared.approving.ApproveFault.TheVariants.{Unrecorded, Unreadable, Full, TooLong}
use Rattle.commands_approve.specs.declared.ends.Ends.{Ends}

-- ---- one approval is wanted

same_from : (r : Repository) (ids : List (List ℕ)) (name a b : List ℕ) → ComesFrom r ids name a → ComesFrom r ids name b → a ≡ b
same_from r ids name a b is other =
    let logs : is.log ≡ other.log = same_entries is.log other.log (sym is.entries ∙ other.entries) in
    is.is ∙ ap (λ (log : List Taken). from (real_rules None) log name) logs ∙ sym other.is

same_tree : (s : State) (a b : List ℕ) → TreeIs s a → TreeIs s b → a ≡ b
same_tree state.Absent a b is other = is ∙ sym other
same_tree (state.Whole root paths dirs) a b is other = is ∙ sym other
same_tree (state.Broken id) a b is other = absurd is

not_broken : (s : State) (tree id : List ℕ) → TreeIs s tree → s ≡ state.Broken id → ⊥
not_broken s tree id is broken = subst (λ (s : State). TreeIs s tree) broken is

module _ (r : Repository) (ids : List (List ℕ)) (name target : List ℕ) where
  same_ends : (e f : Ends) (v w : Envelope) → IsWanted r ids name target e v → IsWanted r ids name target f w → e ≡ f
  same_ends e f v w is other =
      let froms = same_from r ids name e.from f.from is.comes other.comes in
      let trees = same_tree (state_in r target) e.tree f.tree is.goes other.goes in
      λ i. record { from = froms i; tree = trees i }

  same_envelope : (e f : Ends) (v w : Envelope) → IsWanted r ids name target e v → IsWanted r ids name target f w → v ≡ w
  same_envelope e f v w is other =
      is.is
      ∙ ap (λ (ends : Ends). approval_or (payload_text name ends.from ends.tree) (approval_at r (value_of r attestations_name) name ends.from ends.tree)) (same_ends e f v w is other)
      ∙ sym other.is

  module _ (secret : Secret) where
    -- what cannot be so of one approval is not so of the wanted one
    clash : (P Q : Ends → Envelope → Type 0) → ((e : Ends) (v : Envelope) → P e v → Q e v → ⊥) → HasWanted name target r ids secret P → HasWanted name target r ids secret Q → ⊥
    clash P Q never is other =
        never other.ends other.envelope
        (subst (λ (v : Envelope). P other.ends v) (same_envelope is.ends other.ends is.envelope other.envelope is.wanted other.wanted)
        (subst (λ (e : Ends). P e is.envelope) (same_ends is.ends other.ends is.envelope other.envelope is.wanted other.wanted) is.so))
        other.so

    unbroken : (P : Ends → Envelope → Type 0) (id : List ℕ) → HasWanted name target r ids secret P → IsBrokenAt r target id → ⊥
    unbroken P id is broken = not_broken (state_in r target) is.ends.tree id is.wanted.goes broken

-- ---- what cannot be so of one approval

no_room : (secret : Secret) (v : Envelope) → HasRoom secret v → HasNoPlace secret v → ⊥
no_room secret v room none = true≢false (sym room.place ∙ none)

zero_bytes : (n : ℕ) → IsBytes (replicate n 0)
zero_bytes n i = let e : slice_index (replicate n 0) i ≡ 0 = grind (arith, places) in omega (arith, e)

not_long : (secret : Secret) (v : Envelope) → HasRoom secret v → IsTooLong secret v → ⊥
not_long secret v room long =
    let low = room.fits (replicate (signature_len secret) 0) (length-replicate (signature_len secret) 0) (zero_bytes (signature_len secret)) in
    let high = long.long (replicate (signature_len secret) 0) (length-replicate (signature_len secret) 0) (zero_bytes (signature_len secret)) in
    absurd (omega (arith, low, high))

abbrev blank : Envelope
blank = record { payload_type = []; payload = []; signatures = [] }

same_refusal : (r : Repository) (target name from tree a b : List ℕ) → IsInWayOf r target name from tree a → IsInWayOf r target name from tree b → a ≡ b
same_refusal r target name from tree a b is other = (let same = sym (is.refuses blank []) ∙ other.refuses blank [] in cc same)

module _ (one : OneLog) (once : OneBreak) (apart : NeverBoth) (name target file : List ℕ) (was : Repository) where
  module _ (s t : Secret) (key : IsKeyFile file s) (other_key : IsKeyFile file t) (ids xs : List (List ℕ)) (log : IsLogOf was ids) (other_log : IsLogOf was xs) where
    -- the key and the log are one
    moved : (P : Secret → Ends → Envelope → Type 0) → HasWanted name target was ids s (P s) → HasWanted name target was xs t (P t)
    moved P is =
        let same_key : s ≡ t = one_key file s t key other_key in
        let same_log : ids ≡ xs = one (heads_of was) (get was.refs log_name) ids xs log other_log in
        subst (λ (u : Secret). HasWanted name target was xs u (P u)) same_key (subst (λ (l : List (List ℕ)). HasWanted name target was l s (P s)) same_log is)

  -- of one secret and envelope not both are so
  module _ (P Q : Repository → Secret → Ends → Envelope → Type 0) (never : (s : Secret) (e : Ends) (v : Envelope) → P was s e v → Q was s e v → ⊥) where
    apart_behind : (s t : Secret) → IsKeyFile file s → IsKeyFile file t → (is : BehindLog name target file was s (λ r ids u. HasWanted name target r ids u (P r u))) (other : BehindLog name target file was t (λ r ids u. HasWanted name target r ids u (Q r u))) → ⊥
    apart_behind s t key other_key is other =
        clash was other.ids name target t (P was t) (Q was t) (never t) (moved s t key other_key is.ids other.ids is.log other.log (P was) is.why) other.why

  abbrev Open : Repository → Secret → Ends → Envelope → Type 0
  Open r s e v = HasRoom s v × IsFree r name e

  open_full : (s t : Secret) → IsKeyFile file s → IsKeyFile file t → BehindLog name target file was s (IsOpen name target file was) → BehindLog name target file was t (IsFull name target) → ⊥
  open_full = apart_behind Open (λ r s e v. HasNoPlace s v) (λ s e v a b. no_room s v a.0 b)

  open_long : (s t : Secret) → IsKeyFile file s → IsKeyFile file t → BehindLog name target file was s (IsOpen name target file was) → BehindLog name target file was t (IsOverlong name target) → ⊥
  open_long = apart_behind Open (λ r s e v. IsTooLong s v) (λ s e v a b. not_long s v a.0 b)

  full_long : (s t : Secret) → IsKeyFile file s → IsKeyFile file t → BehindLog name target file was s (IsFull name target) → BehindLog name target file was t (IsOverlong name target) → ⊥
  full_long = apart_behind (λ r s e v. HasNoPlace s v) (λ r s e v. IsTooLong s v) (λ s e v a b. true≢false (sym b.place ∙ a))

  -- none of them is so where an object is not readable or in the way
  module _ (P : Repository → Secret → Ends → Envelope → Type 0) (id : List ℕ) (never : (s : Secret) (e : Ends) (v : Envelope) → P was s e v → IsInWay was name e s v id → ⊥) where
    readable : (s t : Secret) → IsKeyFile file s → IsKeyFile file t → BehindLog name target file was s (λ r ids u. HasWanted name target r ids u (P r u)) → BehindLog name target file was t (λ r ids u. IsUnreadable name target r ids u id) → ⊥
    readable s t key other_key is other =
        ⊎_elim (λ broken. unbroken was is.ids name target s (P was s) id is.why broken)
        (λ way. clash was other.ids name target t (P was t) (λ e v. IsInWay was name e t v id) (never t) (moved s t key other_key is.ids other.ids is.log other.log (P was) is.why) way) other.why

  open_unread : (id : List ℕ) (s t : Secret) → IsKeyFile file s → IsKeyFile file t → BehindLog name target file was s (IsOpen name target file was) → BehindLog name target file was t (λ r ids u. IsUnreadable name target r ids u id) → ⊥
  open_unread id = readable Open id (λ s e v a b. a.1.free id b.in_way)

  full_unread : (id : List ℕ) (s t : Secret) → IsKeyFile file s → IsKeyFile file t → BehindLog name target file was s (IsFull name target) → BehindLog name target file was t (λ r ids u. IsUnreadable name target r ids u id) → ⊥
  full_unread id = readable (λ r s e v. HasNoPlace s v) id (λ s e v a b. no_room s v b.room a)

  long_unread : (id : List ℕ) (s t : Secret) → IsKeyFile file s → IsKeyFile file t → BehindLog name target file was s (IsOverlong name target) → BehindLog name target file was t (λ r ids u. IsUnreadable name target r ids u id) → ⊥
  long_unread id = readable (λ r s e v. IsTooLong s v) id (λ s e v a b. not_long s v b.room a)

  same_object : (id found : List ℕ) (s t : Secret) → IsKeyFile file s → IsKeyFile file t → BehindLog name target file was s (λ r ids u. IsUnreadable name target r ids u id) → BehindLog name target file was t (λ r ids u. IsUnreadable name target r ids u found) → id ≡ found
  same_object id found s t key other_key is other =
      ⊎_elim
      (λ broken. ⊎_elim (λ also. (let same = sym broken ∙ also in cc same)) (λ way. absurd (unbroken was other.ids name target t (λ e v. IsInWay was name e t v found) id way broken)) other.why)
      (λ way. ⊎_elim (λ also. absurd (unbroken was is.ids name target s (λ e v. IsInWay was name e s v id) found way also))
      (λ next. same_way t (moved s t key other_key is.ids other.ids is.log other.log (λ u e v. IsInWay was name e u v id) way) next) other.why)
      is.why
    where
      same_way : (t : Secret) → HasWanted name target was other.ids t (λ e v. IsInWay was name e t v id) → HasWanted name target was other.ids t (λ e v. IsInWay was name e t v found) → id ≡ found
      same_way t a b =
          same_refusal was (value_of was attestations_name) name b.ends.from b.ends.tree id found
          (subst (λ (e : Ends). IsInWayOf was (value_of was attestations_name) name e.from e.tree id) (same_ends was other.ids name target a.ends b.ends a.envelope b.envelope a.wanted b.wanted) a.so.in_way) b.so.in_way

  pub same_approved : (a b : Result (Unit {0}) ApproveFault) → ApproveComes name target file was a → ApproveComes name target file was b → a ≡ b
  same_approved (Ok done) (Ok also) is other = refl
  same_approved (Ok done) (Err (Unrecorded (Unread reading.KeyFile))) is other = absurd (not_both file other is.secret (is.unused.is))
  same_approved (Ok done) (Err (Unrecorded (Unread (reading.LogBroken found)))) is other = absurd (apart (heads_of was) (get was.refs log_name) (is.open_).ids _ (is.open_).log other.breaks)
  same_approved (Ok done) (Err (Unrecorded (Unappended append.Exhausted))) is other = absurd (not_spent file other.secret is.secret is.leaf other.used_up is.unused)
  same_approved (Ok done) (Err (Unreadable found)) is other = absurd (open_unread found is.secret other.secret (is.unused.is) (other.is) (is.open_) (other.behind))
  same_approved (Ok done) (Err Full) is other = absurd (open_full is.secret other.secret (is.unused.is) (other.is) (is.open_) (other.behind))
  same_approved (Ok done) (Err TooLong) is other = absurd (open_long is.secret other.secret (is.unused.is) (other.is) (is.open_) (other.behind))
  same_approved (Err (Unrecorded (Unread reading.KeyFile))) (Ok done) is other = absurd (not_both file is other.secret (other.unused.is))
  same_approved (Err (Unrecorded (Unread reading.KeyFile))) (Err (Unrecorded (Unread reading.KeyFile))) is other = refl
  same_approved (Err (Unrecorded (Unread reading.KeyFile))) (Err (Unrecorded (Unread (reading.LogBroken found)))) is other = absurd (not_both file is other.secret (other.is))
  same_approved (Err (Unrecorded (Unread reading.KeyFile))) (Err (Unrecorded (Unappended append.Exhausted))) is other = absurd (not_both file is other.secret (other.used_up.is))
  same_approved (Err (Unrecorded (Unread reading.KeyFile))) (Err (Unreadable found)) is other = absurd (not_both file is other.secret (other.is))
  same_approved (Err (Unrecorded (Unread reading.KeyFile))) (Err Full) is other = absurd (not_both file is other.secret (other.is))
  same_approved (Err (Unrecorded (Unread reading.KeyFile))) (Err TooLong) is other = absurd (not_both file is other.secret (other.is))
  same_approved (Err (Unrecorded (Unread (reading.LogBroken id)))) (Ok done) is other = absurd (apart (heads_of was) (get was.refs log_name) (other.open_).ids _ (other.open_).log is.breaks)
  same_approved (Err (Unrecorded (Unread (reading.LogBroken id)))) (Err (Unrecorded (Unread reading.KeyFile))) is other = absurd (not_both file other is.secret (is.is))
  same_approved (Err (Unrecorded (Unread (reading.LogBroken id)))) (Err (Unrecorded (Unread (reading.LogBroken found)))) is other = ap (λ (i : List ℕ). Err (Unrecorded (Unread (reading.LogBroken i)))) (once (heads_of was) (get was.refs log_name) id found is.breaks other.breaks)
  same_approved (Err (Unrecorded (Unread (reading.LogBroken id)))) (Err (Unrecorded (Unappended append.Exhausted))) is other = absurd (apart (heads_of was) (get was.refs log_name) (other.open_).ids _ (other.open_).log is.breaks)
  same_approved (Err (Unrecorded (Unread (reading.LogBroken id)))) (Err (Unreadable found)) is other = absurd (apart (heads_of was) (get was.refs log_name) (other.behind).ids _ (other.behind).log is.breaks)
  same_approved (Err (Unrecorded (Unread (reading.LogBroken id)))) (Err Full) is other = absurd (apart (heads_of was) (get was.refs log_name) (other.behind).ids _ (other.behind).log is.breaks)
  same_approved (Err (Unrecorded (Unread (reading.LogBroken id)))) (Err TooLong) is other = absurd (apart (heads_of was) (get was.refs log_name) (other.behind).ids _ (other.behind).log is.breaks)
  same_approved (Err (Unrecorded (Unappended append.Exhausted))) (Ok done) is other = absurd (not_spent file is.secret other.secret other.leaf is.used_up other.unused)
  same_approved (Err (Unrecorded (Unappended append.Exhausted))) (Err (Unrecorded (Unread reading.KeyFile))) is other = absurd (not_both file other is.secret (is.used_up.is))
  same_approved (Err (Unrecorded (Unappended append.Exhausted))) (Err (Unrecorded (Unread (reading.LogBroken found)))) is other = absurd (apart (heads_of was) (get was.refs log_name) (is.open_).ids _ (is.open_).log other.breaks)
  same_approved (Err (Unrecorded (Unappended append.Exhausted))) (Err (Unrecorded (Unappended append.Exhausted))) is other = refl
  same_approved (Err (Unrecorded (Unappended append.Exhausted))) (Err (Unreadable found)) is other = absurd (open_unread found is.secret other.secret (is.used_up.is) (other.is) (is.open_) (other.behind))
  same_approved (Err (Unrecorded (Unappended append.Exhausted))) (Err Full) is other = absurd (open_full is.secret other.secret (is.used_up.is) (other.is) (is.open_) (other.behind))
  same_approved (Err (Unrecorded (Unappended append.Exhausted))) (Err TooLong) is other = absurd (open_long is.secret other.secret (is.used_up.is) (other.is) (is.open_) (other.behind))
  same_approved (Err (Unreadable id)) (Ok done) is other = absurd (open_unread id other.secret is.secret (other.unused.is) (is.is) (other.open_) (is.behind))
  same_approved (Err (Unreadable id)) (Err (Unrecorded (Unread reading.KeyFile))) is other = absurd (not_both file other is.secret (is.is))
  same_approved (Err (Unreadable id)) (Err (Unrecorded (Unread (reading.LogBroken found)))) is other = absurd (apart (heads_of was) (get was.refs log_name) (is.behind).ids _ (is.behind).log other.breaks)
  same_approved (Err (Unreadable id)) (Err (Unrecorded (Unappended append.Exhausted))) is other = absurd (open_unread id other.secret is.secret (other.used_up.is) (is.is) (other.open_) (is.behind))
  same_approved (Err (Unreadable id)) (Err (Unreadable found)) is other = ap (λ (i : List ℕ). Err (Unreadable i)) (same_object id found is.secret other.secret is.is other.is is.behind other.behind)
  same_approved (Err (Unreadable id)) (Err Full) is other = absurd (full_unread id other.secret is.secret (other.is) (is.is) (other.behind) (is.behind))
  same_approved (Err (Unreadable id)) (Err TooLong) is other = absurd (long_unread id other.secret is.secret (other.is) (is.is) (other.behind) (is.behind))
  same_approved (Err Full) (Ok done) is other = absurd (open_full other.secret is.secret (other.unused.is) (is.is) (other.open_) (is.behind))
  same_approved (Err Full) (Err (Unrecorded (Unread reading.KeyFile))) is other = absurd (not_both file other is.secret (is.is))
  same_approved (Err Full) (Err (Unrecorded (Unread (reading.LogBroken found)))) is other = absurd (apart (heads_of was) (get was.refs log_name) (is.behind).ids _ (is.behind).log other.breaks)
  same_approved (Err Full) (Err (Unrecorded (Unappended append.Exhausted))) is other = absurd (open_full other.secret is.secret (other.used_up.is) (is.is) (other.open_) (is.behind))
  same_approved (Err Full) (Err (Unreadable found)) is other = absurd (full_unread found is.secret other.secret (is.is) (other.is) (is.behind) (other.behind))
  same_approved (Err Full) (Err Full) is other = refl
  same_approved (Err Full) (Err TooLong) is other = absurd (full_long is.secret other.secret (is.is) (other.is) (is.behind) (other.behind))
  same_approved (Err TooLong) (Ok done) is other = absurd (open_long other.secret is.secret (other.unused.is) (is.is) (other.open_) (is.behind))
  same_approved (Err TooLong) (Err (Unrecorded (Unread reading.KeyFile))) is other = absurd (not_both file other is.secret (is.is))
  same_approved (Err TooLong) (Err (Unrecorded (Unread (reading.LogBroken found)))) is other = absurd (apart (heads_of was) (get was.refs log_name) (is.behind).ids _ (is.behind).log other.breaks)
  same_approved (Err TooLong) (Err (Unrecorded (Unappended append.Exhausted))) is other = absurd (open_long other.secret is.secret (other.used_up.is) (is.is) (other.open_) (is.behind))
  same_approved (Err TooLong) (Err (Unreadable found)) is other = absurd (long_unread found is.secret other.secret (is.is) (other.is) (is.behind) (other.behind))
  same_approved (Err TooLong) (Err Full) is other = absurd (full_long other.secret is.secret (other.is) (is.is) (other.behind) (is.behind))
  same_approved (Err TooLong) (Err TooLong) is other = refl
  same_approved (Err (Unrecorded (Unread reading.DiskFailed))) b is other = absurd is
  same_approved (Err (Unrecorded (Unread reading.TooLarge))) b is other = absurd is
  same_approved (Err (Unrecorded (Unread reading.KeeperFailed))) b is other = absurd is
  same_approved (Err (Unrecorded (Unread reading.Memory))) b is other = absurd is
  same_approved (Err (Unrecorded (BreakUntold id))) b is other = absurd is
  same_approved (Err (Unrecorded (Unappended append.ClockFailed))) b is other = absurd is
  same_approved (Err (Unrecorded (Unappended append.DiskFailed))) b is other = absurd is
  same_approved (Err (Unrecorded (Unappended append.CommitFailed))) b is other = absurd is
  same_approved (Err (Unrecorded (Unappended append.Memory))) b is other = absurd is
  same_approved (Err (Unrecorded (Unappended append.MemoryAfter))) b is other = absurd is
  same_approved (Err (Unrecorded SinkFailed)) b is other = absurd is
  same_approved a (Err (Unrecorded (Unread reading.DiskFailed))) is other = absurd other
  same_approved a (Err (Unrecorded (Unread reading.TooLarge))) is other = absurd other
  same_approved a (Err (Unrecorded (Unread reading.KeeperFailed))) is other = absurd other
  same_approved a (Err (Unrecorded (Unread reading.Memory))) is other = absurd other
  same_approved a (Err (Unrecorded (BreakUntold id))) is other = absurd other
  same_approved a (Err (Unrecorded (Unappended append.ClockFailed))) is other = absurd other
  same_approved a (Err (Unrecorded (Unappended append.DiskFailed))) is other = absurd other
  same_approved a (Err (Unrecorded (Unappended append.CommitFailed))) is other = absurd other
  same_approved a (Err (Unrecorded (Unappended append.Memory))) is other = absurd other
  same_approved a (Err (Unrecorded (Unappended append.MemoryAfter))) is other = absurd other
  same_approved a (Err (Unrecorded SinkFailed)) is other = absurd other
