-- The same words ask for one command at most, and words after a first word are those of the command that it names.
use Rattle.std.proofs.Common.{◌≡◌, ◌<◌, ◌≤◌, ◌^◌, ℕ, Bool, true, false, List, ◌∷◌, length, arith, refl, sym, ap, ◌∙◌, subst}
use Rattle.std.specs.Prelude.{◌≢◌, Option, Some, None, codes, if◌then◌else◌}
use Rattle.std.specs.Option.{IsSomeAnd}
use Rattle.std.specs.Str.{bytes_eq}
use Rattle.text_reader.specs.Hexadecimal.{IsLowerHexadecimal}
use Rattle.text_reader.proofs.Unique.{same_hexadecimal}
use Rattle.git_object.proofs.IdLemmas.{id_is_lower}
use Rattle.evidence.specs.Dossiers.{IsPublic}
use Rattle.hex.specs.Hex.{encode_lower}
use Rattle.command_words.specs.Ids.{AreIds}
use Rattle.command_words.specs.Numbers.{IsCount, IsUpTo}
use Rattle.command_words.specs.Spaced.{IsSpaced}
use Rattle.command_words.proofs.SameName.{same_name, same_some}
use Rattle.command_words.proofs.OneValue.{same_count, same_ids, same_space, same_name as same_spaced_name}
use Rattle.command_words.specs.Commands.{IsAsked, IsRoot, IsBottom, IsKey, IsMessage, IsTarget, annotate_app, explain_app, height_text, kind_text, width_text}
use Rattle.command_words.specs.FirstWords.{AsksFor, AsksForNone, IsCommand, IsNoCommand, IsWithinLimits, name_text}
use Rattle.command_words.specs.Grammars.{value_of}
use Rattle.command_words.specs.Laws.{OneCommand}
use Rattle.command_words.specs.declared.commands.Command.{Command}
use Rattle.command_words.specs.declared.commands.Command.TheVariants.{VerifyRef, VerifyGlobal, KeyGen, Record, Seal, Snapshot, Explain, Annotate, Approve, Demo, EvidenceMake, Serve, Push}
use Rattle.command_words.specs.declared.commands.CommandName.{CommandName}
use Rattle.command_words.specs.declared.commands.CommandName.TheVariants as name
use Rattle.command_words.specs.declared.commands.Height.{Height}
use Rattle.command_words.specs.declared.commands.Height.TheVariants.{H5, H10, H15}
use Rattle.command_words.specs.declared.commands.Width.{Width}
use Rattle.command_words.specs.declared.commands.Width.TheVariants.{W1, W2, W4, W8}

-- the height that a text stands for, as a function of the text
height_by : List ℕ → Height
height_by text = if bytes_eq text (height_text H5) then H5 else (if bytes_eq text (height_text H10) then H10 else H15)

height_by-text : (h : Height) → height_by (height_text h) ≡ h
unfolding height_by
height_by-text H5 = refl
height_by-text H10 = refl
height_by-text H15 = refl

same_height : (a b : Height) → height_text a ≡ height_text b → a ≡ b
same_height a b e = sym (height_by-text a) ∙ ap height_by e ∙ height_by-text b

-- the width that a text stands for
width_by : List ℕ → Width
width_by text = if bytes_eq text (width_text W1) then W1
    else (if bytes_eq text (width_text W2) then W2 else (if bytes_eq text (width_text W4) then W4 else W8))

width_by-text : (w : Width) → width_by (width_text w) ≡ w
unfolding width_by
width_by-text W1 = refl
width_by-text W2 = refl
width_by-text W4 = refl
width_by-text W8 = refl

same_width : (a b : Width) → width_text a ≡ width_text b → a ≡ b
same_width a b e = sym (width_by-text a) ∙ ap width_by e ∙ width_by-text b

heads : (a b : List ℕ) (x y : List (List ℕ)) (words : List (List ℕ)) → words ≡ a ∷ x → words ≡ b ∷ y → a ≡ b
heads a b x y words e f = cc

tails : (a b : List ℕ) (x y : List (List ℕ)) (words : List (List ℕ)) → words ≡ a ∷ x → words ≡ b ∷ y → x ≡ y
tails a b x y words e f = cc

pub found : (words rest : List (List ℕ)) (word : List ℕ) (first : CommandName) → words ≡ word ∷ rest → word ≡ name_text first
    → (command : Command) → AsksFor first rest command → IsCommand words command
found words rest word first e named command asks = record { first = first; rest = rest; are = cc; asks = asks }

pub none_after : (words rest : List (List ℕ)) (word : List ℕ) (first : CommandName) → words ≡ word ∷ rest → word ≡ name_text first
    → AsksForNone first rest → IsNoCommand words
none_after words rest word first e named none command is =
    let same : is.first ≡ first = same_name is.first first (heads _ _ _ _ words is.are e ∙ named) in
    none command (
    subst (λ (n : CommandName). AsksFor n rest command) same
    (subst (λ (r : List (List ℕ)). AsksFor is.first r command) (tails _ _ _ _ words is.are e) is.asks)
    )

pub none_named : (words rest : List (List ℕ)) (word : List ℕ) → words ≡ word ∷ rest
    → ((n : CommandName) → word ≢ name_text n) → IsNoCommand words
none_named words rest word e none command is = none is.first (heads _ _ _ _ words e is.are)

pub none_at_all : (words : List (List ℕ)) → ((first : List ℕ) (rest : List (List ℕ)) → words ≢ first ∷ rest) → IsNoCommand words
none_at_all words none command is = none _ is.rest is.are

-- what is given is such a text in both ways
of_given : {R : Type 0} (given : Option (List ℕ)) (P Q : List ℕ → Type 0) → ((text : List ℕ) → P text → Q text → R) → IsSomeAnd given P → IsSomeAnd given Q → R
of_given None P Q both p q = absurd p
of_given (Some text) P Q both p q = both text p q

same_message : (given : Option (List ℕ)) (a b : List ℕ) → IsMessage given a → IsMessage given b → a ≡ b
same_message None a b is other = is ∙ sym other
same_message (Some text) a b is other = is.0 ∙ sym other.0

-- the word that says whether entries are skipped tells it
is_skip : List ℕ → Bool
is_skip text = bytes_eq text (kind_text true)

is_skip-text : (skip : Bool) → is_skip (kind_text skip) ≡ skip
unfolding is_skip
is_skip-text true = refl
is_skip-text false = refl

same_kind : (a b : Bool) → kind_text a ≡ kind_text b → a ≡ b
same_kind a b e = sym (is_skip-text a) ∙ ap is_skip e ∙ is_skip-text b

same_name_given : (given : Option (List ℕ)) (a b : List ℕ) → IsAsked given a → IsAsked given b → a ≡ b
same_name_given given a b is other = same_some a b (sym is.is ∙ other.is)

same_target : (given : Option (List ℕ)) (a b : List ℕ) → IsTarget given a → IsTarget given b → a ≡ b
same_target given a b is other = same_hexadecimal a b is.is_id.bytes other.is_id.bytes (same_some _ _ (sym is.is ∙ other.is))

same_key : (given : Option (List ℕ)) (a b : List ℕ) → IsKey given a → IsKey given b → a ≡ b
same_key given a b is other = same_hexadecimal a b is.is_public.bytes other.is_public.bytes (same_some _ _ (sym is.is ∙ other.is))

-- a text that is no key's is none's
pub no_key : (given : Option (List ℕ)) (text : List ℕ) → given ≡ Some text → ((public : List ℕ) → IsPublic public → text ≢ encode_lower public) → (public : List ℕ) → IsKey given public → ⊥
no_key given text e none public is = none public is.is_public (same_some _ _ (sym e ∙ is.is))

-- a text that is no id is none's target
pub no_target : (given : Option (List ℕ)) (text : List ℕ) → given ≡ Some text → (IsLowerHexadecimal 32 text → ⊥) → (id : List ℕ) → IsTarget given id → ⊥
no_target given text e none id is = none (subst (IsLowerHexadecimal 32) (same_some _ _ (sym is.is ∙ e)) (id_is_lower id is.is_id))

same_root : (given : Option (List ℕ)) (a b : Option (List (List ℕ))) → IsRoot given a → IsRoot given b → a ≡ b
same_root None None None is other = refl
same_root None None (Some b) is other = absurd other
same_root None (Some a) b is other = absurd is
same_root (Some text) None b is other = absurd is
same_root (Some text) (Some a) None is other = absurd other
same_root (Some text) (Some a) (Some b) is other = ap (λ (ids : List (List ℕ)). Some ids) (same_ids 64 text a b is other)

same_bottom : (given : Option (List ℕ)) (h k : Height) (a b : Option Height) → IsBottom given h a → IsBottom given k b → a ≡ b
same_bottom None h k None None is other = refl
same_bottom None h k None (Some b) is other = absurd other
same_bottom None h k (Some a) b is other = absurd is
same_bottom (Some text) h k None b is other = absurd is
same_bottom (Some text) h k (Some a) None is other = absurd other
same_bottom (Some text) h k (Some a) (Some b) is other = ap (λ (height : Height). Some height) (same_height a b (sym is.0 ∙ other.0))

same_number : (most : ℕ) → most < 2 ^ 64 → (given : Option (List ℕ)) (a b : ℕ) → IsSomeAnd given (λ text. IsCount most text a) → IsSomeAnd given (λ text. IsCount most text b) → a ≡ b
same_number most low given a b is other = of_given given (λ (text : List ℕ). IsCount most text a) (λ (text : List ℕ). IsCount most text b)
    (λ (text : List ℕ) (one : IsCount most text a) (two : IsCount most text b). same_count most text a b low one two) is other

-- behind one first word there is one command
one_after : (first : CommandName) (rest : List (List ℕ)) (a b : Command) → AsksFor first rest a → AsksFor first rest b → a ≡ b
one_after name.VerifyRef rest a b is other =
    let same : is.0 ≡ other.0 = same_name_given _ is.0 other.0 is.4.named other.4.named in
    let under : is.1 ≡ other.1 = same_root _ is.1 other.1 is.4.anchor other.4.anchor in
    let alike : is.2 ≡ other.2 = sym is.4.flag ∙ other.4.flag in
    let named : a ≡ VerifyRef is.0 is.1 is.2 = is.3 in
    let named_so : b ≡ VerifyRef other.0 other.1 other.2 = other.3 in
    cc
one_after name.VerifyGlobal rest a b is other =
    let same : is.0 ≡ other.0 = same_name_given _ is.0 other.0 is.3.named.asked other.3.named.asked in
    let under : is.1 ≡ other.1 = same_root _ is.1 other.1 is.3.anchor other.3.anchor in
    let named : a ≡ VerifyGlobal is.0 is.1 = is.2 in
    let named_so : b ≡ VerifyGlobal other.0 other.1 = other.2 in
    cc
one_after name.Export rest a b is other = is.0 ∙ sym other.0
one_after name.Import rest a b is other = is.0 ∙ sym other.0
one_after name.KeyGen rest a b is other =
    let same : is.0 ≡ other.0 = same_height is.0 other.0 (same_some _ _ (sym is.4.is_height ∙ other.4.is_height)) in
    let alike : is.1 ≡ other.1 = same_width is.1 other.1 (same_some _ _ (sym is.4.is_width ∙ other.4.is_width)) in
    let below : is.2 ≡ other.2 = same_bottom _ is.0 other.0 is.2 other.2 is.4.is_bottom other.4.is_bottom in
    let named : a ≡ KeyGen is.0 is.1 is.2 = is.3 in
    let named_so : b ≡ KeyGen other.0 other.1 other.2 = other.3 in
    cc
one_after name.Log rest a b is other = is.0 ∙ sym other.0
one_after name.Record rest a b is other =
    let same : is.0 ≡ other.0 = same_name_given _ is.0 other.0 is.2.named other.2.named in
    is.1 ∙ ap Record same ∙ sym other.1
one_after name.Seal rest a b is other =
    let alike : is.0 ≡ other.0 = sym is.2.flag ∙ other.2.flag in
    is.1 ∙ ap Seal alike ∙ sym other.1
one_after name.Snapshot rest a b is other =
    let same : is.0 ≡ other.0 = same_name_given _ is.0 other.0 is.2.named other.2.named in
    is.1 ∙ ap Snapshot same ∙ sym other.1
one_after name.PolicyApply rest a b is other = is.0 ∙ sym other.0
one_after name.Explain rest a b is other =
    let given = value_of explain_app (codes "name") rest in
    let same : is.0 ≡ other.0 = of_given given (λ (text : List ℕ). IsSpaced text is.0 is.1) (λ (text : List ℕ). IsSpaced text other.0 other.1)
    (λ (text : List ℕ) (one : IsSpaced text is.0 is.1) (two : IsSpaced text other.0 other.1). same_space text is.0 other.0 is.1 other.1 one two) is.3.names other.3.names in
    let alike : is.1 ≡ other.1 = of_given given (λ (text : List ℕ). IsSpaced text is.0 is.1) (λ (text : List ℕ). IsSpaced text other.0 other.1)
    (λ (text : List ℕ) (one : IsSpaced text is.0 is.1) (two : IsSpaced text other.0 other.1). same_spaced_name text is.0 other.0 is.1 other.1 one two) is.3.names other.3.names in
    let named : a ≡ Explain is.0 is.1 = is.2 in
    let named_so : b ≡ Explain other.0 other.1 = other.2 in
    cc
one_after name.Annotate rest a b is other =
    let skips : is.0 ≡ other.0 = same_kind is.0 other.0 (same_some _ _ (sym is.4.is_kind ∙ other.4.is_kind)) in
    let lists : is.1 ≡ other.1 = of_given (value_of annotate_app (codes "ids") rest) (λ (text : List ℕ). AreIds 256 text is.1) (λ (text : List ℕ). AreIds 256 text other.1)
    (λ (text : List ℕ) (one : AreIds 256 text is.1) (two : AreIds 256 text other.1). same_ids 256 text is.1 other.1 one two) is.4.lists other.4.lists in
    let says : is.2 ≡ other.2 = same_message _ is.2 other.2 is.4.says other.4.says in
    let named : a ≡ Annotate is.0 is.1 is.2 = is.3 in
    let named_so : b ≡ Annotate other.0 other.1 other.2 = other.3 in
    cc
one_after name.Approve rest a b is other =
    let same : is.0 ≡ other.0 = same_name_given _ is.0 other.0 is.3.named other.3.named in
    let at : is.1 ≡ other.1 = same_target _ is.1 other.1 is.3.at other.3.at in
    let named : a ≡ Approve is.0 is.1 = is.2 in
    let named_so : b ≡ Approve other.0 other.1 = other.2 in
    cc
one_after name.Demo rest a b is other =
    let same : is.0 ≡ other.0 = same_number 500 (omega arith) _ is.0 other.0 is.2.counts other.2.counts in
    is.1 ∙ ap Demo same ∙ sym other.1
one_after name.Mirror rest a b is other = is.0 ∙ sym other.0
one_after name.EvidenceMake rest a b is other =
    let same : is.0 ≡ other.0 = same_key _ is.0 other.0 is.4.key other.4.key in
    let at_left : is.1 ≡ other.1 = same_target _ is.1 other.1 is.4.at_left other.4.at_left in
    let at_right : is.2 ≡ other.2 = same_target _ is.2 other.2 is.4.at_right other.4.at_right in
    let named : a ≡ EvidenceMake is.0 is.1 is.2 = is.3 in
    let named_so : b ≡ EvidenceMake other.0 other.1 other.2 = other.3 in
    cc
one_after name.EvidenceCheck rest a b is other = is.0 ∙ sym other.0
one_after name.Serve rest a b is other =
    let ports : is.0 ≡ other.0 = same_number 65535 (omega arith) _ is.0 other.0 is.5.is_port other.5.is_port in
    let workers : is.1 ≡ other.1 = same_number 64 (omega arith) _ is.1 other.1 is.5.are_workers other.5.are_workers in
    let connections : is.2 ≡ other.2 = same_number 1000000 (omega arith) _ is.2 other.2 is.5.are_connections other.5.are_connections in
    let gates : is.3 ≡ other.3 = sym is.5.flag ∙ other.5.flag in
    let named : a ≡ Serve is.0 is.1 is.2 is.3 = is.4 in
    let named_so : b ≡ Serve other.0 other.1 other.2 other.3 = other.4 in
    cc
one_after name.Push rest a b is other =
    let ports : is.0 ≡ other.0 = same_number 65535 (omega arith) _ is.0 other.0 is.3.is_port other.3.is_port in
    let numbers : is.1 ≡ other.1 = same_number 1000000 (omega arith) _ is.1 other.1 is.3.is_number other.3.is_number in
    let named : a ≡ Push is.0 is.1 = is.2 in
    let named_so : b ≡ Push other.0 other.1 = other.2 in
    cc

pub one_command : OneCommand
one_command words a b is other =
    let same : other.first ≡ is.first = same_name other.first is.first (heads _ _ _ _ words other.are is.are) in
    one_after is.first is.rest a b is.asks (
    subst (λ (n : CommandName). AsksFor n is.rest b) same
    (subst (λ (r : List (List ℕ)). AsksFor other.first r b) (tails _ _ _ _ words other.are is.are) other.asks)
    )

listed : (given : Option (List ℕ)) (ids : List (List ℕ)) → IsSomeAnd given (λ text. AreIds 256 text ids) → 0 < length ids
listed None ids is = absurd is
listed (Some text) ids is = is.some

few_listed : (given : Option (List ℕ)) (ids : List (List ℕ)) → IsSomeAnd given (λ text. AreIds 256 text ids) → length ids ≤ 256
few_listed None ids is = absurd is
few_listed (Some text) ids is = is.few

short : (given : Option (List ℕ)) (message : List ℕ) → IsMessage given message → length message ≤ 65536
short None message is = let none : length message ≡ 0 = ap length is in omega arith
short (Some text) message is = let same : length message ≡ length text = ap length is.0 in let few : length text ≤ 65536 = is.1 in omega arith

two_within : (given : Option (List ℕ)) (height : Height) (width : Width) (bottom : Option Height) → IsBottom given height bottom → IsWithinLimits (KeyGen height width bottom)
two_within None height width None is = tt
two_within None height width (Some bottom) is = absurd is
two_within (Some text) height width None is = absurd is
two_within (Some text) height width (Some bottom) is = is.1

few_changes : (given : Option (List ℕ)) (count : ℕ) → IsSomeAnd given (λ text. IsCount 500 text count) → count ≤ 500
few_changes None count is = absurd is
few_changes (Some text) count is = is.few

up_to : (most : ℕ) (given : Option (List ℕ)) (count : ℕ) → IsSomeAnd given (λ text. IsCount most text count) → IsUpTo most count
up_to most None count is = absurd is
up_to most (Some text) count is = record { some = is.some; few = is.few }

-- what is asked for is within its limits
pub within_after : (first : CommandName) (rest : List (List ℕ)) (command : Command) → AsksFor first rest command → IsWithinLimits command
within_after name.VerifyRef rest command asks = subst IsWithinLimits (sym asks.3) asks.4.named.not_log
within_after name.VerifyGlobal rest command asks = subst IsWithinLimits (sym asks.2) (asks.3.named.asked.not_log, asks.3.named.not_policy)
within_after name.Export rest command asks = subst IsWithinLimits (sym asks.0) tt
within_after name.Import rest command asks = subst IsWithinLimits (sym asks.0) tt
within_after name.KeyGen rest command asks = subst IsWithinLimits (sym asks.3) (two_within _ asks.0 asks.1 asks.2 asks.4.is_bottom)
within_after name.Log rest command asks = subst IsWithinLimits (sym asks.0) tt
within_after name.Record rest command asks = subst IsWithinLimits (sym asks.1) asks.2.named.not_log
within_after name.Seal rest command asks = subst IsWithinLimits (sym asks.1) tt
within_after name.Snapshot rest command asks = subst IsWithinLimits (sym asks.1) asks.2.named.not_log
within_after name.PolicyApply rest command asks = subst IsWithinLimits (sym asks.0) tt
within_after name.Explain rest command asks = subst IsWithinLimits (sym asks.2) tt
within_after name.Annotate rest command asks = subst IsWithinLimits (sym asks.3) (listed _ asks.1 asks.4.lists, few_listed _ asks.1 asks.4.lists, short _ asks.2 asks.4.says)
within_after name.Approve rest command asks = subst IsWithinLimits (sym asks.2) asks.3.named.not_log
within_after name.Demo rest command asks = subst IsWithinLimits (sym asks.1) (few_changes _ asks.0 asks.2.counts)
within_after name.Mirror rest command asks = subst IsWithinLimits (sym asks.0) tt
within_after name.EvidenceMake rest command asks = subst IsWithinLimits (sym asks.3) asks.4.key.is_public
within_after name.EvidenceCheck rest command asks = subst IsWithinLimits (sym asks.0) tt
within_after name.Serve rest command asks =
    subst IsWithinLimits (sym asks.4) (up_to 65535 _ asks.0 asks.5.is_port, up_to 64 _ asks.1 asks.5.are_workers, up_to 1000000 _ asks.2 asks.5.are_connections)
within_after name.Push rest command asks =
    subst IsWithinLimits (sym asks.2) (up_to 65535 _ asks.0 asks.3.is_port, up_to 1000000 _ asks.1 asks.3.is_number)
