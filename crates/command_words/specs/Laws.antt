-- What holds of the grammar.
use Rattle.std.specs.Prelude.{◌≡◌, ◌≢◌, ◌≤◌, ◌++◌, ◌∷◌, [], ℕ, Bool, true, false, List, None, Some, codes, decimal}
use Rattle.hex.specs.Hex.{encode_lower}
use Rattle.git_object.specs.Ids.{IsId}
use Rattle.git_object.specs.Names.{IsRefName, log_name}
use Rattle.git_object.specs.References.{policy_name}
use Rattle.evidence.specs.Dossiers.{IsPublic}
use Rattle.ref_patterns.specs.Patterns.{prefix}
use Rattle.ref_patterns.specs.declared.space.Space.{Space}
use Rattle.command_words.specs.Ids.{AreIds}
use Rattle.command_words.specs.Numbers.{IsUpTo}
use Rattle.command_words.specs.Commands.{AreTwo, height_text, kind_text, width_text}
use Rattle.command_words.specs.FirstWords.{IsCommand}
use Rattle.command_words.specs.declared.commands.Command.{Command}
use Rattle.command_words.specs.declared.commands.Command.TheVariants.{VerifyRef, Export, Import, KeyGen, Log, Record}
use Rattle.command_words.specs.declared.commands.Command.TheVariants.{Seal, Snapshot, PolicyApply, Explain, Annotate}
use Rattle.command_words.specs.declared.commands.Command.TheVariants.{Approve, Demo, Mirror}
use Rattle.command_words.specs.declared.commands.Command.TheVariants.{EvidenceMake, EvidenceCheck, Serve, Push}
use Rattle.command_words.specs.declared.commands.Command.TheVariants.{VerifyGlobal}
use Rattle.command_words.specs.declared.commands.Height.{Height}
use Rattle.command_words.specs.declared.commands.Width.{Width}

-- the same words ask for one command at most
abbrev pub OneCommand : Type 0
OneCommand = (words : List (List ℕ)) (a b : Command) → IsCommand words a → IsCommand words b → a ≡ b

-- the word of a flag that is given
abbrev pub flag_words : List ℕ → Bool → List (List ℕ)
flag_words flag true = flag ∷ []
flag_words flag false = []

-- the plain words of a command ask for it
pub record PlainWords : Type 0 where
  pub verify_ref : (name : List ℕ) (stdin : Bool) → IsRefName name → name ≢ log_name
      → IsCommand (codes "verify-ref" ∷ name ∷ flag_words (codes "--stdin") stdin) (VerifyRef name None stdin)
  pub flag_first : (name : List ℕ) → IsRefName name → name ≢ log_name
      → IsCommand (codes "verify-ref" ∷ codes "--stdin" ∷ name ∷ []) (VerifyRef name None true)
  pub verify_global : (name : List ℕ) → IsRefName name → name ≢ log_name → name ≢ policy_name
      → IsCommand (codes "verify-global" ∷ name ∷ []) (VerifyGlobal name None)
  pub export : IsCommand (codes "export" ∷ []) Export
  pub import : IsCommand (codes "import" ∷ []) Import
  pub key_gen : (height : Height) (width : Width)
      → IsCommand (codes "key-gen" ∷ height_text height ∷ width_text width ∷ []) (KeyGen height width None)
  pub key_gen_two : (height bottom : Height) (width : Width) → AreTwo height bottom
      → IsCommand (codes "key-gen" ∷ height_text height ∷ width_text width ∷ codes "--bottom" ∷ height_text bottom ∷ [])
      (KeyGen height width (Some bottom))
  pub log : IsCommand (codes "log" ∷ []) Log
  pub recorded : (name : List ℕ) → IsRefName name → name ≢ log_name
      → IsCommand (codes "record" ∷ name ∷ []) (Record name)
  pub seal : (add : Bool) → IsCommand (codes "seal" ∷ flag_words (codes "--add") add) (Seal add)
  pub snapshot : (name : List ℕ) → IsRefName name → name ≢ log_name
      → IsCommand (codes "snapshot" ∷ name ∷ []) (Snapshot name)
  pub policy_apply : IsCommand (codes "policy-apply" ∷ []) PolicyApply
  pub explain : (space : Space) (text : List ℕ) → IsCommand (codes "explain" ∷ (prefix space ++ text) ∷ [])
      (Explain space text)
  pub annotate : (skip : Bool) (text : List ℕ) (ids : List (List ℕ)) → AreIds 256 text ids
      → IsCommand (codes "annotate" ∷ kind_text skip ∷ text ∷ []) (Annotate skip ids [])
  pub demo : (count : ℕ) → 1 ≤ count → count ≤ 500 → IsCommand (codes "demo" ∷ decimal count ∷ []) (Demo count)
  pub approve : (name target : List ℕ) → IsRefName name → name ≢ log_name → IsId target
      → IsCommand (codes "approve" ∷ name ∷ encode_lower target ∷ []) (Approve name target)
  pub mirror : IsCommand (codes "mirror" ∷ []) Mirror
  pub evidence_make : (public left right : List ℕ) → IsPublic public → IsId left → IsId right
      → IsCommand (codes "evidence-make" ∷ encode_lower public ∷ encode_lower left ∷ encode_lower right ∷ [])
      (EvidenceMake public left right)
  pub evidence_check : IsCommand (codes "evidence-check" ∷ []) EvidenceCheck
  pub serve : (port workers connections : ℕ) (gate : Bool) → IsUpTo 65535 port → IsUpTo 64 workers
      → IsUpTo 1000000 connections → IsCommand (codes "serve" ∷ decimal port ∷ decimal workers ∷ decimal connections
      ∷ flag_words (codes "--gate") gate) (Serve port workers connections gate)
  pub push : (port number : ℕ) → IsUpTo 65535 port → IsUpTo 1000000 number
      → IsCommand (codes "push" ∷ decimal port ∷ decimal number ∷ []) (Push port number)
