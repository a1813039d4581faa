-- The line of an entry that was read again.
use Rattle.std.proofs.Common.{◌≡◌, ◌-◌, ℕ, Option, suc, zero, List, [], ◌∷◌, Some, None, sym, ap, subst, ◌∙◌}
use Rattle.std.specs.List.{AllByRecursion, slice_get}
use Rattle.git_object.specs.Repository.{Repository}
use Rattle.rsl_chain.specs.Entries.{Taken}
use Rattle.rsl_chain.specs.declared.entries.Entry.{Entry}
use Rattle.rsl_chain.specs.Logs.{IsNoEntryAs, IsUnbroken, entry_at}
use Rattle.rsl_chain.specs.declared.log_faults.LogFault.{LogFault}
use Rattle.rsl_chain.specs.declared.log_faults.LogFault.TheVariants.{Broken, Failed, Memory}
use Rattle.judging.specs.Logs as logs
use Rattle.account_lines.specs.Lines.{entry_line}
use Rattle.account_lines.specs.declared.rows.EntryRow.{EntryRow}
use Rattle.account_lines.specs.declared.rows.Later.{Later}
use Rattle.accounts.specs.Accounts.{IsLine, later_of}
use Rattle.accounts.specs.Judging.{IsJudgedLog, IsOwn}
use Rattle.accounts.specs.Rows.{row_of}
use Rattle.accounts.specs.declared.judged_log.JudgedLog.{JudgedLog}
use Rattle.accounts.proofs.Rowed.{row_there}

-- ---- the entry of a row

pub at_index : {X : Type 0} (P : X → Type 0) (xs : List X) (k : ℕ) (x : X) → AllByRecursion P xs → slice_get xs k ≡ Some x → P x
at_index P [] k x all is = absurd (cc is)
at_index P (y ∷ ys) zero x all is = let same : y ≡ x = cc is in subst P same all.0
at_index P (y ∷ ys) (suc k) x all is = at_index P ys k x all.1 is

-- what is known of the entry of a number
abbrev pub IsKnownAt : Option (List (List ℕ)) → List Taken → ℕ → EntryRow → Type 0
IsKnownAt anchor log number row = (t : Taken) × (logs.entry_at log number ≡ Some t) × (row ≡ row_of anchor (logs.before log number) t)

pub known_at : (r : Repository) (judged : JudgedLog) (is : IsJudgedLog judged.engine.rules.anchor r judged) (number : ℕ) (row : EntryRow)
    → slice_get judged.rows (number - 1) ≡ Some row → IsKnownAt judged.engine.rules.anchor is.log number row
known_at r judged is number row at =
    row_there judged.engine.rules.anchor is.log (number - 1) row (ap (λ (rows : List EntryRow). slice_get rows (number - 1)) (sym is.stands.rows) ∙ at)

module _ (r : Repository) (anchor : Option (List (List ℕ))) (log : List Taken) (own : AllByRecursion (IsOwn r) log) (number : ℕ) (row : EntryRow)
    (known : IsKnownAt anchor log number row) where
  read_is : entry_at r row.id ≡ Some known.0.entry
  read_is =
      let id : row.id ≡ known.0.entry.id = ap (λ (x : EntryRow). x.id) known.2 in
      ap (entry_at r) id ∙ at_index (IsOwn r) log (number - 1) known.0 own known.1

  pub is_line : (entry : Entry) (later : Later) (text : List ℕ) → entry_at r row.id ≡ Some entry → later ≡ later_of anchor log number
      → text ≡ entry_line entry row later → IsLine anchor log number text
  is_line entry later text read told made =
      let both : Some entry ≡ Some known.0.entry = sym read ∙ read_is in
      let same : entry ≡ known.0.entry = cc both in
      record {
        t = known.0;
        there = known.1;
        is = made ∙ ap (λ (e : Entry). entry_line e row later) same ∙ ap (λ (x : EntryRow). entry_line known.0.entry x later) known.2
            ∙ ap (entry_line known.0.entry (row_of anchor (logs.before log number) known.0)) told;
      }

  pub no_break : (fault : LogFault) → IsNoEntryAs r row.id fault → IsUnbroken fault
  no_break (Broken id) none =
      let clash : Some known.0.entry ≡ None = sym read_is ∙ none in
      absurd (cc clash)
  no_break Failed none = tt
  no_break Memory none = tt
