-- One call more of a disk in memory.
use Rattle.std.proofs.Common.{◌≡◌, ◌≤◌, ◌+◌, ℕ, List, [], ◌∷◌, ◌++◌, length, take, drop, refl, sym, ap, ◌∙◌, arith}
use Rattle.std.proofs.lemmas.Grind.{common_steps}
use Rattle.std.proofs.lemmas.List.{length-append, length-drop, take-append-le, length-take-le}
use Rattle.edge_io.specs.declared.disk_calls.DiskCall.{DiskCall}
use Rattle.edge_io.specs.declared.disk_calls.DiskCall.TheVariants.{Write, Sync}
use Rattle.edge_io.specs.Recorded.{AreKept, Step, byte_count, seen_after, splice, steps_onto, synced, wrote}

take_back : (bytes : List ℕ) → take (length bytes) bytes ≡ bytes
take_back [] = refl
take_back (b ∷ bytes) = ap (λ (rest : List ℕ). b ∷ rest) (take_back bytes)

drop_front : (n : ℕ) (xs ys : List ℕ) → n ≤ length xs → drop n (xs ++ ys) ≡ drop n xs ++ ys
drop_front n xs ys le = grind (arith, common_steps)

-- the steps with a write more
pub with_write : (later : List Step) (kept : List DiskCall) (bytes new : List ℕ) (at : ℕ) → byte_count kept ≡ length bytes
    → steps_onto later (kept ++ Write at (length new) ∷ []) (bytes ++ new) ≡ wrote at new ∷ steps_onto later kept bytes
with_write later [] [] new at whole = ap (λ (b : List ℕ). wrote at b ∷ later) (take_back new)
with_write later [] (b ∷ bytes) new at whole = absurd (omega arith)
with_write later (Write from len ∷ kept) bytes new at whole =
    let le : len ≤ length bytes = omega arith in
    let less : byte_count kept ≡ length (drop len bytes) = omega (arith, length-drop len bytes) in
    ap (λ (b : List ℕ). steps_onto (wrote from b ∷ later) (kept ++ Write at (length new) ∷ []) (drop len (bytes ++ new))) (take-append-le len bytes new le)
    ∙ ap (λ (b : List ℕ). steps_onto (wrote from (take len bytes) ∷ later) (kept ++ Write at (length new) ∷ []) b) (drop_front len bytes new le)
    ∙ with_write (wrote from (take len bytes) ∷ later) kept (drop len bytes) new at less
with_write later (Sync ∷ kept) bytes new at whole = with_write (synced ∷ later) kept bytes new at whole

-- the steps with a sync more
pub with_sync : (later : List Step) (kept : List DiskCall) (bytes : List ℕ) → steps_onto later (kept ++ Sync ∷ []) bytes ≡ synced ∷ steps_onto later kept bytes
with_sync later [] bytes = refl
with_sync later (Write from len ∷ kept) bytes = with_sync (wrote from (take len bytes) ∷ later) kept (drop len bytes)
with_sync later (Sync ∷ kept) bytes = with_sync (synced ∷ later) kept bytes

counted_write : (kept : List DiskCall) (at len : ℕ) → byte_count (kept ++ Write at len ∷ []) ≡ byte_count kept + len
counted_write [] at len = omega arith
counted_write (Write from n ∷ kept) at len = omega (arith, counted_write kept at len)
counted_write (Sync ∷ kept) at len = counted_write kept at len

counted_sync : (kept : List DiskCall) → byte_count (kept ++ Sync ∷ []) ≡ byte_count kept
counted_sync [] = refl
counted_sync (Write from n ∷ kept) = omega (arith, counted_sync kept)
counted_sync (Sync ∷ kept) = counted_sync kept

spliced_len : (at : ℕ) (new bytes : List ℕ) → at ≤ length bytes → length (splice at new bytes) ≤ length bytes + length new
spliced_len at new bytes le = omega (arith, length-append (take at bytes ++ new) (drop (at + length new) bytes), length-append (take at bytes) new, length-drop (at + length new) bytes, length-take-le at bytes le)

-- what is kept after a write
pub kept_write : (start bytes written : List ℕ) (kept : List DiskCall) (most : ℕ) (new : List ℕ) (at : ℕ) → at ≤ length bytes → length written + length new ≤ most
    → AreKept start bytes written kept most → AreKept start (splice at new bytes) (written ++ new) (kept ++ Write at (length new) ∷ []) most
kept_write start bytes written kept most new at within fits are = record {
  seen = ap (splice at new) are.seen ∙ sym (ap (seen_after start) (with_write [] kept written new at are.whole));
  whole = omega (arith, counted_write kept at (length new), length-append written new, are.whole);
  room = omega (arith, length-append written new);
  long = omega (arith, spliced_len at new bytes within, length-append written new, are.long);
}

-- what is kept after a sync
pub kept_sync : (start bytes written : List ℕ) (kept : List DiskCall) (most : ℕ)
    → AreKept start bytes written kept most → AreKept start bytes written (kept ++ Sync ∷ []) most
kept_sync start bytes written kept most are = record {
  seen = are.seen ∙ sym (ap (seen_after start) (with_sync [] kept written));
  whole = counted_sync kept ∙ are.whole;
  room = are.room;
  long = are.long;
}
