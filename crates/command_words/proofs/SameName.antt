-- A first word is the name of one command at most.
use Rattle.std.proofs.Common.{◌≡◌, ℕ, List, refl, sym, ap, ◌∙◌}
use Rattle.std.specs.Prelude.{Option, Some, if◌then◌else◌}
use Rattle.std.specs.Str.{bytes_eq}
use Rattle.command_words.specs.FirstWords.{name_text}
use Rattle.command_words.specs.declared.commands.CommandName.{CommandName}
use Rattle.command_words.specs.declared.commands.CommandName.TheVariants as name

-- the command that a first word names, as a function of the word
named_by : List ℕ → Option CommandName
named_by word = if bytes_eq word (name_text name.VerifyRef) then Some name.VerifyRef
    else (if bytes_eq word (name_text name.VerifyGlobal) then Some name.VerifyGlobal
    else (if bytes_eq word (name_text name.Export) then Some name.Export
    else (if bytes_eq word (name_text name.Import) then Some name.Import
    else (if bytes_eq word (name_text name.KeyGen) then Some name.KeyGen
    else (if bytes_eq word (name_text name.Log) then Some name.Log
    else (if bytes_eq word (name_text name.Record) then Some name.Record
    else (if bytes_eq word (name_text name.Seal) then Some name.Seal
    else (if bytes_eq word (name_text name.Snapshot) then Some name.Snapshot
    else (if bytes_eq word (name_text name.PolicyApply) then Some name.PolicyApply
    else (if bytes_eq word (name_text name.Explain) then Some name.Explain
    else (if bytes_eq word (name_text name.Annotate) then Some name.Annotate
    else (if bytes_eq word (name_text name.Approve) then Some name.Approve
    else (if bytes_eq word (name_text name.Demo) then Some name.Demo
    else (if bytes_eq word (name_text name.Mirror) then Some name.Mirror
    else (if bytes_eq word (name_text name.EvidenceMake) then Some name.EvidenceMake
    else (if bytes_eq word (name_text name.EvidenceCheck) then Some name.EvidenceCheck
    else (if bytes_eq word (name_text name.Serve) then Some name.Serve
    else Some name.Push)))))))))))))))))

named_by-text : (n : CommandName) → named_by (name_text n) ≡ Some n
unfolding named_by
named_by-text name.VerifyRef = refl
named_by-text name.VerifyGlobal = refl
named_by-text name.Export = refl
named_by-text name.Import = refl
named_by-text name.KeyGen = refl
named_by-text name.Log = refl
named_by-text name.Record = refl
named_by-text name.Seal = refl
named_by-text name.Snapshot = refl
named_by-text name.PolicyApply = refl
named_by-text name.Explain = refl
named_by-text name.Annotate = refl
named_by-text name.Approve = refl
named_by-text name.Demo = refl
named_by-text name.Mirror = refl
named_by-text name.EvidenceMake = refl
named_by-text name.EvidenceCheck = refl
named_by-text name.Serve = refl
named_by-text name.Push = refl

pub same_some : {X : Type 0} (x y : X) → Some x ≡ Some y → x ≡ y
same_some x y e = cc

pub same_name : (a b : CommandName) → name_text a ≡ name_text b → a ≡ b
same_name a b e = same_some a b (sym (named_by-text a) ∙ ap named_by e ∙ named_by-text b)
