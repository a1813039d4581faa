-- What an ending means where the objects that the command touches tell what they hold.
use Rattle.std.proofs.Common.{◌≡◌, ◌⊎◌, ◌++◌, ◌≤◌, [], inl, inr, ℕ, Bool, List, length, take, refl, sym, ap, subst, ◌∙◌, arith}
use Rattle.std.specs.Prelude.{Option, Some, None, Result, Ok, Err}
use Rattle.std.proofs.Math.Seq.{take-append_seam}
use Rattle.std.proofs.lemmas.List.{append-nil, take_all}
use Rattle.git_object.specs.Repository.{Repository}
use Rattle.octets.specs.Content.{with_front}
use Rattle.worlds.proofs.Lifted.{told_ending}
use Rattle.worlds.specs.Endings.{IsStopped}
use Rattle.worlds.proofs.StillHeld.{still_held}
use Rattle.worlds.specs.Worlds.{Types, Ways}
use Rattle.desk_messages.specs.ClientAsking.{HasCome, most_read}
use Rattle.commands_desk.specs.Answering.{Says}
use Rattle.commands_desk.specs.Contents.{Answers, PushComes}
use Rattle.commands_desk.specs.Faults.{push_ending}
use Rattle.commands_desk.specs.Pushing.{IsTold, OfPush, Passed, PushEnds}
use Rattle.commands_desk.specs.PushRuns.{PushMeans, TellsOfWorld, passed}
use Rattle.commands_desk.specs.declared.faults.PushFault.{PushFault}
use Rattle.commands_desk.specs.declared.faults.PushFault.TheVariants.{LogBroken, NoEntry, Missing, TooLarge, Desk, KeeperFailed, PeerFailed, SinkFailed, Memory}

same_some : (a b : List ℕ) → Some a ≡ Some b → a ≡ b
same_some a b e = cc

-- the bytes that came are as many as are read of those that come
came_is : (left_now : Option (List ℕ)) (come bytes : List ℕ) → HasCome (Some come) left_now bytes → bytes ≡ take most_read come
came_is None come bytes came = absurd (cc came.read)
came_is (Some rest) come bytes came = by_stop came.stops
  where
    whole : come ≡ bytes ++ rest
    whole = same_some come (bytes ++ rest) came.read

    by_stop : ((rest ≡ []) ⊎ (length bytes ≡ most_read)) → bytes ≡ take most_read come
    by_stop (inl ended) =
        let all : come ≡ bytes = whole ∙ ap (λ (t : List ℕ). bytes ++ t) ended ∙ append-nil bytes in
        sym (take_all most_read bytes came.few) ∙ ap (take most_read) (sym all)
    by_stop (inr long) = sym (take-append_seam bytes rest) ∙ ap (λ (n : ℕ). take n (bytes ++ rest)) long ∙ ap (take most_read) (sym whole)

module _ (port number : ℕ) (was : Repository) (come : List ℕ) (p : Passed) (left : p.left ≡ Some come) where
  answers : (taken : Bool) → OfPush port number (Some was) p (λ text. IsTold port text p taken) → Answers was come number taken
  answers taken of =
      let came : HasCome (Some come) p.left_now of.so.answered.bytes = subst (λ (l : Option (List ℕ)). HasCome l p.left_now of.so.answered.bytes) left of.so.answered.came in
      record {
        text = of.text;
        made = of.ready.told was refl;
        said = of.so.said;
        says = subst (λ (b : List ℕ). Says b of.so.said taken) (came_is p.left_now come of.so.answered.bytes came) of.so.answered.says;
      }

  pub told_push : (outcome : Result (Unit {0}) PushFault) → PushEnds port number (Some was) p outcome → PushComes was come number outcome ⊎ IsStopped (push_ending outcome)
  told_push (Ok done) ends = inl (answers _ ends)
  told_push (Err (LogBroken id)) ends = inl (ends.told was refl)
  told_push (Err NoEntry) ends = inl (ends.told was refl)
  told_push (Err (Missing id)) ends = inl (ends.told was refl)
  told_push (Err TooLarge) ends = inl (ends.told was refl)
  told_push (Err Desk) ends = inl (answers _ ends)
  told_push (Err KeeperFailed) ends = inr tt
  told_push (Err PeerFailed) ends = inr tt
  told_push (Err SinkFailed) ends = inr tt
  told_push (Err Memory) ends = inr tt

module _ {types : Types} (ways : Ways types) where
  pub told : TellsOfWorld ways
  told port number before after content ending tells runs =
      let held = still_held ways before after content tells.store runs.1 in
      told_ending push_ending (PushMeans ways port number before after) (PushComes content.held content.come number)
      (λ (outcome : Result (Unit {0}) PushFault) means.
      told_push port number content.held content.come (passed ways before after) tells.peer outcome
      (subst (λ (o : Option Repository). PushEnds port number o (passed ways before after) outcome) held means))
      ending runs.0.ended
