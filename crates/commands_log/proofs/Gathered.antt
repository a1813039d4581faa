-- The entries whose lines were printed, and those whose lines wait in the piece.
use Rattle.std.proofs.Common.{◌≡◌, inl, inr, ◌<◌, ◌+◌, ℕ, List, [], ◌∷◌, ◌++◌, length, take, drop, get_or, Option, Some, None, Result, Ok, Err, refl, sym, ap, subst, ◌∙◌, append_assoc, take-append-drop}
use Rattle.std.specs.Result.{IsErrAnd}
use Rattle.std.proofs.lemmas.Grind.{flat_map-append}
use Rattle.std.proofs.lemmas.List.{append-nil, flat_map_more, length_push, take_more}
use Rattle.octets.specs.Content.{GainsPart, Stays, with_end}
use Rattle.git_object.specs.Repository.{Repository}
use Rattle.rsl_chain.specs.declared.entries.Entry.{Entry}
use Rattle.rsl_chain.specs.Logs.{IsNoEntryAs, entry_at}
use Rattle.rsl_chain.specs.declared.log_faults.LogFault.{LogFault}
use Rattle.rsl_chain.specs.declared.log_faults.LogFault.TheVariants as log
use Rattle.commands_log.specs.Faults.{fault_of_log}
use Rattle.rsl_chain.specs.Histories.{AreEntriesAt}
use Rattle.commands_log.specs.Lines.{entry_line, log_text}
use Rattle.commands_log.specs.Printing.{Gathers, MissesOne, PrintsAll, PrintsAt, PrintsCut, PrintsSome, Releases}
use Rattle.commands_log.specs.declared.faults.LogCommandFault.{LogCommandFault}
use Rattle.edge_io.proofs.Ends.{end_then, no_end, part_then}
use Rattle.rsl_chain.proofs.Entered.{joined}

-- the entries at these ids: the lines of the first were printed, and those of the others are in the piece
pub record IsGathered (held : Option Repository) (ids : List (List ℕ)) (printed now : Option (List ℕ)) (piece : List ℕ) : Type 0 where
  pub out : List Entry
  pub inside : List Entry
  pub gained : now ≡ with_end printed (log_text out)
  pub piece_is : piece ≡ log_text inside
  pub many : length (out ++ inside) ≡ length ids
  pub told : (r : Repository) → held ≡ Some r → AreEntriesAt r ids (out ++ inside)

pub gathered_none : (held : Option Repository) (printed : Option (List ℕ)) → IsGathered held [] printed printed []
gathered_none held printed = record { out = []; inside = []; gained = no_end printed; piece_is = refl; many = refl; told = λ r is. refl }

-- one entry more in the piece
pub gathered_more : (held held_now : Option Repository) (ids : List (List ℕ)) (id : List ℕ) (printed now : Option (List ℕ)) (piece piece_now : List ℕ)
    → Stays held held_now → IsGathered held ids printed now piece → Gathers held_now id piece piece_now → IsGathered held_now (ids ++ id ∷ []) printed now piece_now
gathered_more held held_now ids id printed now piece piece_now stays so more =
    let shape : so.out ++ (so.inside ++ more.entry ∷ []) ≡ (so.out ++ so.inside) ++ more.entry ∷ [] = sym (append_assoc so.out so.inside (more.entry ∷ [])) in
    record {
      out = so.out;
      inside = so.inside ++ more.entry ∷ [];
      gained = so.gained;
      piece_is = more.gained ∙ ap (λ (t : List ℕ). t ++ entry_line more.entry) so.piece_is ∙ flat_map_more entry_line [] so.inside more.entry;
      many = ap length shape ∙ length_push (so.out ++ so.inside) more.entry ∙ ap (λ (n : ℕ). n + 1) so.many ∙ sym (length_push ids id);
      told = λ r is. subst (AreEntriesAt r (ids ++ id ∷ [])) (sym shape) (joined r ids (id ∷ []) (so.out ++ so.inside) (more.entry ∷ []) (so.told r (stays r is)) (alone r (more.told r is)));
    }
  where
    alone : (r : Repository) → entry_at r id ≡ Some more.entry → AreEntriesAt r (id ∷ []) (more.entry ∷ [])
    alone r e = λ i. e i ∷ []

-- the lines of these, and then of those
two_texts : (xs ys : List Entry) → log_text xs ++ log_text ys ≡ log_text (xs ++ ys)
two_texts xs ys = sym (flat_map-append entry_line xs ys)

-- the piece stays or goes out
pub gathered_released : (held : Option Repository) (ids : List (List ℕ)) (printed now later : Option (List ℕ)) (piece piece_now : List ℕ)
    → IsGathered held ids printed now piece → Releases now later piece piece_now → IsGathered held ids printed later piece_now
gathered_released held ids printed now later piece piece_now so (inl stays) = record {
  out = so.out;
  inside = so.inside;
  gained = stays.0 ∙ so.gained;
  piece_is = stays.1 ∙ so.piece_is;
  many = so.many;
  told = so.told;
}
gathered_released held ids printed now later piece piece_now so (inr goes) = record {
  out = so.out ++ so.inside;
  inside = [];
  gained = end_then printed now later (log_text so.out) piece so.gained goes.0 ∙ ap (with_end printed) (ap (λ (t : List ℕ). log_text so.out ++ t) so.piece_is ∙ two_texts so.out so.inside);
  piece_is = goes.1;
  many = ap length (append-nil (so.out ++ so.inside)) ∙ so.many;
  told = λ r is. subst (AreEntriesAt r ids) (sym (append-nil (so.out ++ so.inside))) (so.told r is);
}

-- the rest of the piece goes out
pub printed_all : (held : Option Repository) (ids : List (List ℕ)) (printed now later : Option (List ℕ)) (piece : List ℕ)
    → IsGathered held ids printed now piece → later ≡ with_end now piece → PrintsAll ids held printed later
printed_all held ids printed now later piece so goes = record {
  entries = so.out ++ so.inside;
  gained = end_then printed now later (log_text so.out) piece so.gained goes ∙ ap (with_end printed) (ap (λ (t : List ℕ). log_text so.out ++ t) so.piece_is ∙ two_texts so.out so.inside);
  many = so.many;
  told = so.told;
}

-- nothing more was printed than went out
pub printed_some : (held held_now : Option Repository) (ids : List (List ℕ)) (n : ℕ) (printed now : Option (List ℕ)) (piece : List ℕ)
    → Stays held held_now → IsGathered held (take n ids) printed now piece → PrintsSome ids held_now printed now
printed_some held held_now ids n printed now piece stays so = record {
  first = so.out;
  gained = so.gained;
  told = λ r is. (n, so.inside, so.told r (stays r is));
}

-- a front of the piece went out
pub printed_cut : (held : Option Repository) (ids : List (List ℕ)) (n : ℕ) (printed now later : Option (List ℕ)) (piece : List ℕ)
    → IsGathered held (take n ids) printed now piece → GainsPart now later piece → PrintsCut ids held printed later
printed_cut held ids n printed now later piece so part = record {
  first = so.out ++ so.inside;
  part = subst (GainsPart printed later) (ap (λ (t : List ℕ). log_text so.out ++ t) so.piece_is ∙ two_texts so.out so.inside) (part_then printed now later (log_text so.out) piece so.gained part);
  told = λ r is. (n, [], subst (AreEntriesAt r (take n ids)) (sym (append-nil (so.out ++ so.inside))) (so.told r is));
}

-- ---- an item of the list

pub one_more_id : (ids : List (List ℕ)) (i : ℕ) (id : List ℕ) → i < length ids → id ≡ get_or ids i id → take i ids ++ id ∷ [] ≡ take (i + 1) ids
one_more_id ids i id below is = ap (λ (x : List ℕ). take i ids ++ x ∷ []) is ∙ sym (take_more ids i id below)

-- no entry stands at an item
pub missed : (held : Option Repository) (ids : List (List ℕ)) (i : ℕ) (id : List ℕ) → i < length ids → id ≡ get_or ids i id
    → ((r : Repository) → held ≡ Some r → entry_at r id ≡ None) → MissesOne held ids
missed held ids i id below at none = λ r told. (
  take i ids,
  id,
  drop (i + 1) ids,
  sym (take-append-drop (i + 1) ids) ∙ ap (λ (t : List (List ℕ)). t ++ drop (i + 1) ids) (sym (one_more_id ids i id below at)) ∙ append_assoc (take i ids) (id ∷ []) (drop (i + 1) ids),
  none r told,
)

-- the line of one more item in the piece
pub one_more_gathered : (held held_now : Option Repository) (ids : List (List ℕ)) (i : ℕ) (id : List ℕ) (printed now : Option (List ℕ)) (piece piece_now : List ℕ) → i < length ids → id ≡ get_or ids i id
    → Stays held held_now → IsGathered held (take i ids) printed now piece → Gathers held_now id piece piece_now → IsGathered held_now (take (i + 1) ids) printed now piece_now
one_more_gathered held held_now ids i id printed now piece piece_now below at stays so more =
    subst (λ (front : List (List ℕ)). IsGathered held_now front printed now piece_now) (one_more_id ids i id below at) (gathered_more held held_now (take i ids) id printed now piece piece_now stays so more)

-- ---- refusals

-- no entry was read at an item
pub gathering_stops : (held held_now : Option Repository) (ids : List (List ℕ)) (i : ℕ) (id : List ℕ) (printed now : Option (List ℕ)) (piece : List ℕ) (fault : LogFault) → i < length ids → id ≡ get_or ids i id
    → Stays held held_now → IsGathered held (take i ids) printed now piece → ((r : Repository) → held_now ≡ Some r → IsNoEntryAs r id fault) → PrintsAt ids held_now printed now (Err (fault_of_log fault))
gathering_stops held held_now ids i id printed now piece (log.Broken named) below at stays so none = (printed_some held held_now ids i printed now piece stays so, missed held_now ids i id below at none)
gathering_stops held held_now ids i id printed now piece log.Failed below at stays so none = printed_some held held_now ids i printed now piece stays so
gathering_stops held held_now ids i id printed now piece log.Memory below at stays so none = printed_some held held_now ids i printed now piece stays so

-- an error that is made of another
pub of_error : (ids : List (List ℕ)) (held : Option Repository) (printed now : Option (List ℕ)) (result : Result (Unit {0}) LogCommandFault) (fault : LogCommandFault) → IsErrAnd result (λ made. made ≡ fault)
    → PrintsAt ids held printed now (Err fault) → PrintsAt ids held printed now result
of_error ids held printed now (Ok done) fault made stops = absurd made
of_error ids held printed now (Err error) fault made stops = subst (λ (e : LogCommandFault). PrintsAt ids held printed now (Err e)) (sym made) stops
