-- The words of each command behind its name.
use Rattle.std.specs.Prelude.{◌≡◌, ◌≢◌, ◌≤◌, [], ℕ, Bool, true, false, List, Option, Some, None, codes, length}
use Rattle.std.specs.Option.{IsSomeAnd}
use Rattle.clap.specs.Simple.{App, with_rule}
use Rattle.hex.specs.Hex.{encode_lower}
use Rattle.git_object.specs.Ids.{IsId}
use Rattle.git_object.specs.Names.{IsRefName, log_name}
use Rattle.git_object.specs.References.{policy_name}
use Rattle.ref_patterns.specs.declared.space.Space.{Space}
use Rattle.evidence.specs.Dossiers.{IsPublic}
use Rattle.command_words.specs.Ids.{AreIds}
use Rattle.command_words.specs.Numbers.{IsCount}
use Rattle.command_words.specs.Spaced.{IsSpaced}
use Rattle.command_words.specs.Grammars.{Takes, bare_app, flag_rule, is_given, option_rule, positional_rule, value_of}
use Rattle.command_words.specs.declared.commands.Height.{Height}
use Rattle.command_words.specs.declared.commands.Height.TheVariants.{H5, H10, H15}
use Rattle.command_words.specs.declared.commands.Width.{Width}
use Rattle.command_words.specs.declared.commands.Width.TheVariants.{W1, W2, W4, W8}

-- a value that is given is the name of a reference other than the log's own
pub record IsAsked (given : Option (List ℕ)) (name : List ℕ) : Type 0 where
  pub is : given ≡ Some name
  pub is_name : IsRefName name
  pub not_log : name ≢ log_name

-- ---- record <ref>, snapshot <ref>

abbrev pub reference_app : List ℕ → App
reference_app command = with_rule (bare_app command) (positional_rule (codes "ref"))

-- a reference other than the log's own
pub record AsksReference (command name : List ℕ) (words : List (List ℕ)) : Type 0 where
  pub takes : Takes (reference_app command) words
  pub named : IsAsked (value_of (reference_app command) (codes "ref") words) name

-- ---- verify-ref <ref> [--root <keyid,..>] [--stdin]

abbrev pub verify_ref_app : App
verify_ref_app = with_rule (with_rule (with_rule (bare_app (codes "verify-ref")) (positional_rule (codes "ref")))
    (option_rule (codes "root"))) (flag_rule (codes "stdin"))

-- from 1 to 64 ids of keys, or no such option
abbrev pub IsRoot : Option (List ℕ) → Option (List (List ℕ)) → Type 0
IsRoot None None = Unit {0}
IsRoot None (Some ids) = ⊥
IsRoot (Some text) None = ⊥
IsRoot (Some text) (Some ids) = AreIds 64 text ids

-- a reference other than the log's own, the keys of the root, and whether the flag is given
pub record AsksVerdict (name : List ℕ) (root : Option (List (List ℕ))) (stdin : Bool) (words : List (List ℕ)) : Type 0
  where
    pub takes : Takes verify_ref_app words
    pub named : IsAsked (value_of verify_ref_app (codes "ref") words) name
    pub anchor : IsRoot (value_of verify_ref_app (codes "root") words) root
    pub flag : is_given verify_ref_app (codes "stdin") words ≡ stdin

-- ---- verify-global <ref> [--root <keyid,..>]

abbrev pub verify_global_app : App
verify_global_app = with_rule (with_rule (bare_app (codes "verify-global")) (positional_rule (codes "ref")))
    (option_rule (codes "root"))

-- a value that is given is the name of a reference other than the log's own and the policy's
pub record IsJudged (given : Option (List ℕ)) (name : List ℕ) : Type 0 where
  pub asked : IsAsked given name
  pub not_policy : name ≢ policy_name

-- such a reference, and the keys of the root
pub record AsksGlobal (name : List ℕ) (root : Option (List (List ℕ))) (words : List (List ℕ)) : Type 0 where
  pub takes : Takes verify_global_app words
  pub named : IsJudged (value_of verify_global_app (codes "ref") words) name
  pub anchor : IsRoot (value_of verify_global_app (codes "root") words) root

-- ---- annotate <skip or note> <id,..> [--message <text>]

abbrev pub annotate_app : App
annotate_app = with_rule (with_rule (with_rule (bare_app (codes "annotate")) (positional_rule (codes "kind")))
    (positional_rule (codes "ids"))) (option_rule (codes "message"))

-- the word that says whether the entries are skipped
abbrev pub kind_text : Bool → List ℕ
kind_text true = codes "skip"
kind_text false = codes "note"

-- the message: none is the empty one
abbrev pub IsMessage : Option (List ℕ) → List ℕ → Type 0
IsMessage None message = message ≡ []
IsMessage (Some text) message = (message ≡ text) × (length text ≤ 65536)

-- whether the entries are skipped, from 1 to 256 ids of theirs in this order, and a message of at most 65,536 bytes
pub record AsksNote (skip : Bool) (ids : List (List ℕ)) (message : List ℕ) (words : List (List ℕ)) : Type 0 where
  pub takes : Takes annotate_app words
  pub is_kind : value_of annotate_app (codes "kind") words ≡ Some (kind_text skip)
  pub lists : IsSomeAnd (value_of annotate_app (codes "ids") words) (λ text. AreIds 256 text ids)
  pub says : IsMessage (value_of annotate_app (codes "message") words) message

-- ---- approve <ref> <target id>

abbrev pub approve_app : App
approve_app = with_rule (reference_app (codes "approve")) (positional_rule (codes "target"))

-- a value that is given is an id in lower-case hexadecimal
pub record IsTarget (given : Option (List ℕ)) (id : List ℕ) : Type 0 where
  pub is : given ≡ Some (encode_lower id)
  pub is_id : IsId id

-- a reference other than the log's own, and the id of an object
pub record AsksApproval (name target : List ℕ) (words : List (List ℕ)) : Type 0 where
  pub takes : Takes approve_app words
  pub named : IsAsked (value_of approve_app (codes "ref") words) name
  pub at : IsTarget (value_of approve_app (codes "target") words) target

-- ---- evidence-make <key> <id> <id>

abbrev pub evidence_app : App
evidence_app = with_rule (with_rule (with_rule (bare_app (codes "evidence-make")) (positional_rule (codes "key")))
    (positional_rule (codes "left"))) (positional_rule (codes "right"))

-- a value that is given is the bytes of a public key in lower-case hexadecimal
pub record IsKey (given : Option (List ℕ)) (public : List ℕ) : Type 0 where
  pub is : given ≡ Some (encode_lower public)
  pub is_public : IsPublic public

-- a key, and the ids of two objects
pub record AsksDossier (public left right : List ℕ) (words : List (List ℕ)) : Type 0 where
  pub takes : Takes evidence_app words
  pub key : IsKey (value_of evidence_app (codes "key") words) public
  pub at_left : IsTarget (value_of evidence_app (codes "left") words) left
  pub at_right : IsTarget (value_of evidence_app (codes "right") words) right

-- ---- demo <n>

abbrev pub demo_app : App
demo_app = with_rule (bare_app (codes "demo")) (positional_rule (codes "count"))

-- a number from 1 to 500
pub record AsksDemo (count : ℕ) (words : List (List ℕ)) : Type 0 where
  pub takes : Takes demo_app words
  pub counts : IsSomeAnd (value_of demo_app (codes "count") words) (λ text. IsCount 500 text count)

-- ---- explain <git:text or file:text>

abbrev pub explain_app : App
explain_app = with_rule (bare_app (codes "explain")) (positional_rule (codes "name"))

-- a name in a space, which may be empty
pub record AsksReasons (space : Space) (name : List ℕ) (words : List (List ℕ)) : Type 0 where
  pub takes : Takes explain_app words
  pub names : IsSomeAnd (value_of explain_app (codes "name") words) (λ text. IsSpaced text space name)

-- ---- seal [--add]

abbrev pub seal_app : App
seal_app = with_rule (bare_app (codes "seal")) (flag_rule (codes "add"))

-- whether the flag is given
pub record AsksSeal (add : Bool) (words : List (List ℕ)) : Type 0 where
  pub takes : Takes seal_app words
  pub flag : is_given seal_app (codes "add") words ≡ add

-- ---- key-gen <height> <width> [--bottom <height>]

abbrev pub key_gen_app : App
key_gen_app = with_rule (with_rule (with_rule (bare_app (codes "key-gen")) (positional_rule (codes "height")))
    (positional_rule (codes "width"))) (option_rule (codes "bottom"))

abbrev pub height_text : Height → List ℕ
height_text H5 = codes "5"
height_text H10 = codes "10"
height_text H15 = codes "15"

abbrev pub width_text : Width → List ℕ
width_text W1 = codes "1"
width_text W2 = codes "2"
width_text W4 = codes "4"
width_text W8 = codes "8"

-- the trees of a key of two levels: each has 5 or 10 levels of its own, and not both 10
abbrev pub AreTwo : Height → Height → Type 0
AreTwo H5 H5 = Unit {0}
AreTwo H5 H10 = Unit {0}
AreTwo H5 H15 = ⊥
AreTwo H10 H5 = Unit {0}
AreTwo H10 H10 = ⊥
AreTwo H10 H15 = ⊥
AreTwo H15 bottom = ⊥

-- the height of the trees below, or no such option
abbrev pub IsBottom : Option (List ℕ) → Height → Option Height → Type 0
IsBottom None height None = Unit {0}
IsBottom None height (Some bottom) = ⊥
IsBottom (Some text) height None = ⊥
IsBottom (Some text) height (Some bottom) = (text ≡ height_text bottom) × AreTwo height bottom

-- the number of levels of the tree, and of bits of a digit, and the number of levels of the trees below, if there are
-- any
pub record AsksKey (height : Height) (width : Width) (bottom : Option Height) (words : List (List ℕ)) : Type 0 where
  pub takes : Takes key_gen_app words
  pub is_height : value_of key_gen_app (codes "height") words ≡ Some (height_text height)
  pub is_width : value_of key_gen_app (codes "width") words ≡ Some (width_text width)
  pub is_bottom : IsBottom (value_of key_gen_app (codes "bottom") words) height bottom

-- ---- serve <port> <workers> <connections> [--gate]

abbrev pub serve_app : App
serve_app = with_rule (with_rule (with_rule (with_rule (bare_app (codes "serve")) (positional_rule (codes "port")))
    (positional_rule (codes "workers"))) (positional_rule (codes "connections"))) (flag_rule (codes "gate"))

-- a port, from 1 to 65,535, a number of workers, from 1 to 64, and of the connections of each, from 1 to 1,000,000, and
-- whether the flag is given
pub record AsksService (port workers connections : ℕ) (gate : Bool) (words : List (List ℕ)) : Type 0 where
  pub takes : Takes serve_app words
  pub is_port : IsSomeAnd (value_of serve_app (codes "port") words) (λ text. IsCount 65535 text port)
  pub are_workers : IsSomeAnd (value_of serve_app (codes "workers") words) (λ text. IsCount 64 text workers)
  pub are_connections : IsSomeAnd (value_of serve_app (codes "connections") words)
      (λ text. IsCount 1000000 text connections)
  pub flag : is_given serve_app (codes "gate") words ≡ gate

-- ---- push <port> <number>

abbrev pub push_app : App
push_app = with_rule (with_rule (bare_app (codes "push")) (positional_rule (codes "port")))
    (positional_rule (codes "number"))

-- a port, from 1 to 65,535, and the number of an entry, from 1 to 1,000,000
pub record AsksPush (port number : ℕ) (words : List (List ℕ)) : Type 0 where
  pub takes : Takes push_app words
  pub is_port : IsSomeAnd (value_of push_app (codes "port") words) (λ text. IsCount 65535 text port)
  pub is_number : IsSomeAnd (value_of push_app (codes "number") words) (λ text. IsCount 1000000 text number)
