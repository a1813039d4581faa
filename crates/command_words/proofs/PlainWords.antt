-- The plain words of each command ask for it.
use Rattle.std.proofs.Common.{◌≡◌, ◌≢◌, ℕ, Bool, true, false, List, [], ◌∷◌, ◌++◌, refl, sym, subst}
use Rattle.std.specs.Prelude.{Option, Some, None, codes, decimal}
use Rattle.std.specs.Option.{IsSomeAnd}
use Rattle.clap.specs.Faults.{defaults_fault, flags_fault, walk_fault}
use Rattle.clap.specs.Walk.{walked}
use Rattle.hex.specs.Hex.{encode_lower}
use Rattle.git_object.specs.Names.{IsRefName, log_name}
use Rattle.ref_patterns.specs.Patterns.{prefix}
use Rattle.ref_patterns.specs.declared.space.Space.{Space}
use Rattle.ref_patterns.specs.declared.space.Space.TheVariants.{Git, File}
use Rattle.command_words.specs.Spaced.{IsSpaced}
use Rattle.command_words.specs.Commands.{AreTwo, AsksKey, AsksReasons, AsksReference, AsksVerdict, IsBottom, IsRoot, explain_app, height_text, kind_text, key_gen_app, reference_app, seal_app, verify_ref_app, width_text}
use Rattle.command_words.specs.Grammars.{Takes, bare_app, is_given, value_of}
use Rattle.command_words.specs.Laws.{PlainWords, flag_words}
use Rattle.command_words.specs.declared.commands.CommandName.TheVariants as name
use Rattle.command_words.proofs.GlobalWords.{global_asks}
use Rattle.command_words.proofs.LetterFirst.{letter_first}
use Rattle.command_words.proofs.PushWords.{push_asks}
use Rattle.command_words.proofs.ServeWords.{serve_asks}
use Rattle.command_words.proofs.ValueWords.{annotate_asks, approve_asks, demo_asks, evidence_asks}
use Rattle.command_words.specs.declared.commands.Height.{Height}
use Rattle.command_words.specs.declared.commands.Height.TheVariants.{H5, H10, H15}
use Rattle.command_words.specs.declared.commands.Width.{Width}
use Rattle.command_words.specs.declared.commands.Width.TheVariants.{W1, W2, W4, W8}

taken : (rest : List ℕ) (stdin : Bool) → Takes verify_ref_app ((114 ∷ rest) ∷ flag_words (codes "--stdin") stdin)
unfolding walk_fault walked flags_fault defaults_fault
taken rest true = refl
taken rest false = refl

given : (rest : List ℕ) (stdin : Bool) → value_of verify_ref_app (codes "ref") ((114 ∷ rest) ∷ flag_words (codes "--stdin") stdin) ≡ Some (114 ∷ rest)
unfolding walked
given rest true = refl
given rest false = refl

flagged : (rest : List ℕ) (stdin : Bool) → is_given verify_ref_app (codes "stdin") ((114 ∷ rest) ∷ flag_words (codes "--stdin") stdin) ≡ stdin
unfolding walked
flagged rest true = refl
flagged rest false = refl

no_more : (name : List ℕ) → Takes (bare_app name) []
unfolding walk_fault walked flags_fault defaults_fault
no_more name = refl

taken_first : (rest : List ℕ) → Takes verify_ref_app (codes "--stdin" ∷ (114 ∷ rest) ∷ [])
unfolding walk_fault walked flags_fault defaults_fault
taken_first rest = refl

given_first : (rest : List ℕ) → value_of verify_ref_app (codes "ref") (codes "--stdin" ∷ (114 ∷ rest) ∷ []) ≡ Some (114 ∷ rest)
unfolding walked
given_first rest = refl

flagged_first : (rest : List ℕ) → is_given verify_ref_app (codes "stdin") (codes "--stdin" ∷ (114 ∷ rest) ∷ []) ≡ true
unfolding walked
flagged_first rest = refl

alone_taken : (command rest : List ℕ) → Takes (reference_app command) ((114 ∷ rest) ∷ [])
unfolding walk_fault walked flags_fault defaults_fault
alone_taken command rest = refl

alone_given : (command rest : List ℕ) → value_of (reference_app command) (codes "ref") ((114 ∷ rest) ∷ []) ≡ Some (114 ∷ rest)
unfolding walked
alone_given command rest = refl

seal_taken : (add : Bool) → Takes seal_app (flag_words (codes "--add") add)
unfolding walk_fault walked flags_fault defaults_fault
seal_taken true = refl
seal_taken false = refl

seal_flagged : (add : Bool) → is_given seal_app (codes "add") (flag_words (codes "--add") add) ≡ add
unfolding walked
seal_flagged true = refl
seal_flagged false = refl

explain_taken : (space : Space) (text : List ℕ) → Takes explain_app ((prefix space ++ text) ∷ [])
unfolding walk_fault walked flags_fault defaults_fault
explain_taken Git text = refl
explain_taken File text = refl

explain_given : (space : Space) (text : List ℕ) → value_of explain_app (codes "name") ((prefix space ++ text) ∷ []) ≡ Some (prefix space ++ text)
unfolding walked
explain_given Git text = refl
explain_given File text = refl

asks_reasons : (space : Space) (text : List ℕ) → AsksReasons space text ((prefix space ++ text) ∷ [])
asks_reasons space text = record {
  takes = explain_taken space text;
  names = subst (λ (given : Option (List ℕ)). IsSomeAnd given (λ found. IsSpaced found space text)) (sym (explain_given space text)) (record { written = refl });
}

key_taken : (height : Height) (width : Width) → Takes key_gen_app (height_text height ∷ width_text width ∷ [])
unfolding walk_fault walked flags_fault defaults_fault
key_taken H5 W1 = refl
key_taken H5 W2 = refl
key_taken H5 W4 = refl
key_taken H5 W8 = refl
key_taken H10 W1 = refl
key_taken H10 W2 = refl
key_taken H10 W4 = refl
key_taken H10 W8 = refl
key_taken H15 W1 = refl
key_taken H15 W2 = refl
key_taken H15 W4 = refl
key_taken H15 W8 = refl

height_given : (height : Height) (width : Width) → value_of key_gen_app (codes "height") (height_text height ∷ width_text width ∷ []) ≡ Some (height_text height)
unfolding walked
height_given H5 W1 = refl
height_given H5 W2 = refl
height_given H5 W4 = refl
height_given H5 W8 = refl
height_given H10 W1 = refl
height_given H10 W2 = refl
height_given H10 W4 = refl
height_given H10 W8 = refl
height_given H15 W1 = refl
height_given H15 W2 = refl
height_given H15 W4 = refl
height_given H15 W8 = refl

width_given : (height : Height) (width : Width) → value_of key_gen_app (codes "width") (height_text height ∷ width_text width ∷ []) ≡ Some (width_text width)
unfolding walked
width_given H5 W1 = refl
width_given H5 W2 = refl
width_given H5 W4 = refl
width_given H5 W8 = refl
width_given H10 W1 = refl
width_given H10 W2 = refl
width_given H10 W4 = refl
width_given H10 W8 = refl
width_given H15 W1 = refl
width_given H15 W2 = refl
width_given H15 W4 = refl
width_given H15 W8 = refl

no_bottom : (height : Height) (width : Width) → value_of key_gen_app (codes "bottom") (height_text height ∷ width_text width ∷ []) ≡ None
unfolding walked
no_bottom H5 W1 = refl
no_bottom H5 W2 = refl
no_bottom H5 W4 = refl
no_bottom H5 W8 = refl
no_bottom H10 W1 = refl
no_bottom H10 W2 = refl
no_bottom H10 W4 = refl
no_bottom H10 W8 = refl
no_bottom H15 W1 = refl
no_bottom H15 W2 = refl
no_bottom H15 W4 = refl
no_bottom H15 W8 = refl

key_asks : (height : Height) (width : Width) → AsksKey height width None (height_text height ∷ width_text width ∷ [])
key_asks height width = record {
  takes = key_taken height width;
  is_height = height_given height width;
  is_width = width_given height width;
  is_bottom = subst (λ (given : Option (List ℕ)). IsBottom given height None) (sym (no_bottom height width)) tt;
}

-- ---- with trees below
record AreTwoWords (height bottom : Height) (width : Width) : Type 0 where
  takes : Takes key_gen_app (height_text height ∷ width_text width ∷ codes "--bottom" ∷ height_text bottom ∷ [])
  is_height : value_of key_gen_app (codes "height") (height_text height ∷ width_text width ∷ codes "--bottom" ∷ height_text bottom ∷ []) ≡ Some (height_text height)
  is_width : value_of key_gen_app (codes "width") (height_text height ∷ width_text width ∷ codes "--bottom" ∷ height_text bottom ∷ []) ≡ Some (width_text width)
  is_bottom : value_of key_gen_app (codes "bottom") (height_text height ∷ width_text width ∷ codes "--bottom" ∷ height_text bottom ∷ []) ≡ Some (height_text bottom)

are_two_words : (height bottom : Height) (width : Width) → AreTwo height bottom → AreTwoWords height bottom width
unfolding walk_fault walked flags_fault defaults_fault
are_two_words H5 H5 W1 are = record { takes = refl; is_height = refl; is_width = refl; is_bottom = refl }
are_two_words H5 H5 W2 are = record { takes = refl; is_height = refl; is_width = refl; is_bottom = refl }
are_two_words H5 H5 W4 are = record { takes = refl; is_height = refl; is_width = refl; is_bottom = refl }
are_two_words H5 H5 W8 are = record { takes = refl; is_height = refl; is_width = refl; is_bottom = refl }
are_two_words H5 H10 W1 are = record { takes = refl; is_height = refl; is_width = refl; is_bottom = refl }
are_two_words H5 H10 W2 are = record { takes = refl; is_height = refl; is_width = refl; is_bottom = refl }
are_two_words H5 H10 W4 are = record { takes = refl; is_height = refl; is_width = refl; is_bottom = refl }
are_two_words H5 H10 W8 are = record { takes = refl; is_height = refl; is_width = refl; is_bottom = refl }
are_two_words H10 H5 W1 are = record { takes = refl; is_height = refl; is_width = refl; is_bottom = refl }
are_two_words H10 H5 W2 are = record { takes = refl; is_height = refl; is_width = refl; is_bottom = refl }
are_two_words H10 H5 W4 are = record { takes = refl; is_height = refl; is_width = refl; is_bottom = refl }
are_two_words H10 H5 W8 are = record { takes = refl; is_height = refl; is_width = refl; is_bottom = refl }
are_two_words H5 H15 width are = absurd are
are_two_words H10 H10 width are = absurd are
are_two_words H10 H15 width are = absurd are
are_two_words H15 bottom width are = absurd are

two_asks : (height bottom : Height) (width : Width) → AreTwo height bottom → AsksKey height width (Some bottom) (height_text height ∷ width_text width ∷ codes "--bottom" ∷ height_text bottom ∷ [])
two_asks height bottom width are =
    let words = are_two_words height bottom width are in
    record {
      takes = words.takes;
      is_height = words.is_height;
      is_width = words.is_width;
      is_bottom = subst (λ (given : Option (List ℕ)). IsBottom given height (Some bottom)) (sym words.is_bottom) (refl, are);
    }

no_root : (rest : List ℕ) (stdin : Bool) → value_of verify_ref_app (codes "root") ((114 ∷ rest) ∷ flag_words (codes "--stdin") stdin) ≡ None
unfolding walked
no_root rest true = refl
no_root rest false = refl

no_root_first : (rest : List ℕ) → value_of verify_ref_app (codes "root") (codes "--stdin" ∷ (114 ∷ rest) ∷ []) ≡ None
unfolding walked
no_root_first rest = refl

asks : (name : List ℕ) (stdin : Bool) → IsRefName name → name ≢ log_name → AsksVerdict name None stdin (name ∷ flag_words (codes "--stdin") stdin)
asks name stdin is not_log =
    let begins = letter_first name is in
    subst (λ (n : List ℕ). IsRefName n → n ≢ log_name → AsksVerdict n None stdin (n ∷ flag_words (codes "--stdin") stdin)) (sym begins.1)
    (λ is_name other. record {
      takes = taken begins.0 stdin;
      named = record { is = given begins.0 stdin; is_name = is_name; not_log = other };
      anchor = subst (λ (root : Option (List ℕ)). IsRoot root None) (sym (no_root begins.0 stdin)) tt;
      flag = flagged begins.0 stdin;
    }) is not_log

asks_first : (name : List ℕ) → IsRefName name → name ≢ log_name → AsksVerdict name None true (codes "--stdin" ∷ name ∷ [])
asks_first name is not_log =
    let begins = letter_first name is in
    subst (λ (n : List ℕ). IsRefName n → n ≢ log_name → AsksVerdict n None true (codes "--stdin" ∷ n ∷ [])) (sym begins.1)
    (λ is_name other. record {
      takes = taken_first begins.0;
      named = record { is = given_first begins.0; is_name = is_name; not_log = other };
      anchor = subst (λ (root : Option (List ℕ)). IsRoot root None) (sym (no_root_first begins.0)) tt;
      flag = flagged_first begins.0;
    }) is not_log

asks_alone : (command name : List ℕ) → IsRefName name → name ≢ log_name → AsksReference command name (name ∷ [])
asks_alone command name is not_log =
    let begins = letter_first name is in
    subst (λ (n : List ℕ). IsRefName n → n ≢ log_name → AsksReference command n (n ∷ [])) (sym begins.1)
    (λ is_name other. record {
      takes = alone_taken command begins.0;
      named = record { is = alone_given command begins.0; is_name = is_name; not_log = other };
    }) is not_log

pub plain_words : PlainWords
plain_words = record {
  verify_ref = λ reference stdin is not_log. record { first = name.VerifyRef; rest = reference ∷ flag_words (codes "--stdin") stdin; are = refl; asks = (reference, None, stdin, refl, asks reference stdin is not_log) };
  flag_first = λ reference is not_log. record { first = name.VerifyRef; rest = codes "--stdin" ∷ reference ∷ []; are = refl; asks = (reference, None, true, refl, asks_first reference is not_log) };
  verify_global = λ reference is not_log not_policy. record { first = name.VerifyGlobal; rest = reference ∷ []; are = refl; asks = (reference, None, refl, global_asks reference is not_log not_policy) };
  export = record { first = name.Export; rest = []; are = refl; asks = (refl, no_more (codes "export")) };
  import = record { first = name.Import; rest = []; are = refl; asks = (refl, no_more (codes "import")) };
  key_gen = λ height width. record { first = name.KeyGen; rest = height_text height ∷ width_text width ∷ []; are = refl; asks = (height, width, None, refl, key_asks height width) };
  key_gen_two = λ height bottom width are. record {
    first = name.KeyGen;
    rest = height_text height ∷ width_text width ∷ codes "--bottom" ∷ height_text bottom ∷ [];
    are = refl;
    asks = (height, width, Some bottom, refl, two_asks height bottom width are);
  };
  log = record { first = name.Log; rest = []; are = refl; asks = (refl, no_more (codes "log")) };
  recorded = λ reference is not_log. record { first = name.Record; rest = reference ∷ []; are = refl; asks = (reference, refl, asks_alone (codes "record") reference is not_log) };
  seal = λ add. record { first = name.Seal; rest = flag_words (codes "--add") add; are = refl; asks = (add, refl, record { takes = seal_taken add; flag = seal_flagged add }) };
  snapshot = λ reference is not_log. record { first = name.Snapshot; rest = reference ∷ []; are = refl; asks = (reference, refl, asks_alone (codes "snapshot") reference is not_log) };
  policy_apply = record { first = name.PolicyApply; rest = []; are = refl; asks = (refl, no_more (codes "policy-apply")) };
  explain = λ space text. record { first = name.Explain; rest = (prefix space ++ text) ∷ []; are = refl; asks = (space, text, refl, asks_reasons space text) };
  annotate = λ skip text ids are. record { first = name.Annotate; rest = kind_text skip ∷ text ∷ []; are = refl; asks = (skip, ids, [], refl, annotate_asks skip text ids are) };
  demo = λ count some few. record { first = name.Demo; rest = decimal count ∷ []; are = refl; asks = (count, refl, demo_asks count some few) };
  approve = λ reference target is not_log is_id. record { first = name.Approve; rest = reference ∷ encode_lower target ∷ []; are = refl; asks = (reference, target, refl, approve_asks reference target is not_log is_id) };
  mirror = record { first = name.Mirror; rest = []; are = refl; asks = (refl, no_more (codes "mirror")) };
  evidence_make = λ public left right is_public is_left is_right. record {
    first = name.EvidenceMake;
    rest = encode_lower public ∷ encode_lower left ∷ encode_lower right ∷ [];
    are = refl;
    asks = (public, left, right, refl, evidence_asks public left right is_public is_left is_right);
  };
  evidence_check = record { first = name.EvidenceCheck; rest = []; are = refl; asks = (refl, no_more (codes "evidence-check")) };
  serve = λ port workers connections gate p w c. record {
    first = name.Serve;
    rest = decimal port ∷ decimal workers ∷ decimal connections ∷ flag_words (codes "--gate") gate;
    are = refl;
    asks = (port, workers, connections, gate, refl, serve_asks port workers connections gate p w c);
  };
  push = λ port number p n. record {
    first = name.Push;
    rest = decimal port ∷ decimal number ∷ [];
    are = refl;
    asks = (port, number, refl, push_asks port number p n);
  };
}
