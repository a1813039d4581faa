-- What breaks a stream at a place: of all that may break there, one, and nothing where a record that may come stands.
use Rattle.std.proofs.Common.{◌≡◌, ◌≢◌, ℕ, ◌+◌, ◌≤◌, List, ◌∷◌, ◌++◌, length, refl, sym, ap, subst, ◌∙◌, arith, length-append, inl, inr}
use Rattle.std.specs.Prelude.{codes, decimal, ◌⊎◌}
use Rattle.text_reader.proofs.Unique.{same_fronts}
use Rattle.git_object.specs.Objects.{object_id}
use Rattle.git_object.specs.Repository.{largest_body}
use Rattle.git_object.specs.declared.kinds.Kind.{Kind}
use Rattle.clone_stream.specs.Breaks.{BreaksBody, BreaksLine, BreaksOrder, BreaksRecord}
use Rattle.clone_stream.specs.Wrongs.{ComesObject, HasBadEnd, HasHead, Last}
use Rattle.clone_stream.specs.Reading.{ComesAfter}
use Rattle.clone_stream.specs.Streams.{IsRef, end_line, object_line, ref_line}
use Rattle.clone_stream.specs.declared.stream_faults.Break.{Break}
use Rattle.clone_stream.specs.declared.stream_faults.Break.TheVariants.{BadLine, IdDiffers, Order, TooLarge, Cut, Failed, Memory}
use Rattle.clone_stream.proofs.Lines.{object_then, ref_then}
use Rattle.clone_stream.proofs.OneFront.{Front, IsFront, SaysLine, ended, end, head, huge, one_front, other, ref, says, unended}
use Rattle.clone_stream.proofs.OneReading.{IsStop}
use Rattle.clone_stream.proofs.RecordLines.{object_is_line, ref_is_line}

-- the breaks that come of the text alone
abbrev pub IsOfText : Break → Type 0
IsOfText (BadLine p) = Unit {0}
IsOfText (IdDiffers id found) = Unit {0}
IsOfText (Order p) = Unit {0}
IsOfText (TooLarge limit) = Unit {0}
IsOfText (Cut p) = Unit {0}
IsOfText (Failed p) = ⊥
IsOfText Memory = ⊥

-- ---- after the line of an object

-- the text ends before the line feed, another byte stands there, or a body and what follows it
pub data Body : Type 0 where
  short : Body
  bad : Body
  whole : List ℕ → List ℕ → Body

abbrev pub IsBody : ℕ → List ℕ → Body → Type 0
IsBody size rest short = length rest ≤ size
IsBody size rest bad = HasBadEnd size rest
IsBody size rest (whole body more) = (rest ≡ body ++ 10 ∷ more) × (length body ≡ size)

short_no_more : (size : ℕ) (rest body more : List ℕ) (byte : ℕ) → length rest ≤ size → rest ≡ body ++ byte ∷ more → length body ≡ size → ⊥
short_no_more size rest body more byte a e long = let front = ap length e ∙ length-append body (byte ∷ more) in absurd (omega arith)

bad_no_whole : (size : ℕ) (rest body more : List ℕ) → HasBadEnd size rest → rest ≡ body ++ 10 ∷ more → length body ≡ size → ⊥
bad_no_whole size rest body more a e long =
    let same = same_fronts a.body body (a.byte ∷ a.more) (10 ∷ more) (a.long ∙ sym long) (sym a.whole ∙ e) in
    let feed : a.byte ≡ 10 = cc (same.1) in
    a.other feed

pub one_body : (size : ℕ) (rest : List ℕ) (b d : Body) → IsBody size rest b → IsBody size rest d → b ≡ d
one_body size rest short short x y = refl
one_body size rest short bad x y = absurd (short_no_more size rest y.body y.more y.byte x y.whole y.long)
one_body size rest short (whole body more) x y = absurd (short_no_more size rest body more 10 x y.0 y.1)
one_body size rest bad short x y = absurd (short_no_more size rest x.body x.more x.byte y x.whole x.long)
one_body size rest bad bad x y = refl
one_body size rest bad (whole body more) x y = absurd (bad_no_whole size rest body more x y.0 y.1)
one_body size rest (whole body more) short x y = absurd (short_no_more size rest body more 10 y x.0 x.1)
one_body size rest (whole body more) bad x y = absurd (bad_no_whole size rest body more y x.0 x.1)
one_body size rest (whole body more) (whole found after) x y =
    let same = same_fronts body found (10 ∷ more) (10 ∷ after) (x.1 ∙ sym y.1) (sym x.0 ∙ y.0) in
    let follows : more ≡ after = cc (same.1) in
    λ i. whole (same.0 i) (follows i)

-- a whole body has another id
abbrev pub Differs : List ℕ → Kind → Body → Type 0
Differs id kind short = Unit {0}
Differs id kind bad = Unit {0}
Differs id kind (whole body more) = object_id kind body ≢ id

-- what breaks there
abbrev pub body_fault : List ℕ → Kind → ℕ → ℕ → List ℕ → Body → Break
body_fault id kind size at rest short = Cut (at + length rest)
body_fault id kind size at rest bad = BadLine (at + size)
body_fault id kind size at rest (whole body more) = IdDiffers id (object_id kind body)

pub record BodyBreaks (id : List ℕ) (kind : Kind) (size at : ℕ) (rest : List ℕ) (fault : Break) : Type 0 where
  pub body : Body
  pub is : IsBody size rest body
  pub differs : Differs id kind body
  pub fault_is : fault ≡ body_fault id kind size at rest body

pub body_breaks : (id : List ℕ) (kind : Kind) (size at : ℕ) (rest : List ℕ) (fault : Break) → BreaksBody id kind size at rest fault → IsOfText fault → BodyBreaks id kind size at rest fault
body_breaks id kind size at rest (BadLine p) b of = record { body = bad; is = b.1; differs = tt; fault_is = ap BadLine b.0 }
body_breaks id kind size at rest (IdDiffers i found) b of = record {
  body = whole b.1.body b.1.more;
  is = (b.1.whole, b.1.long);
  differs = λ e. b.1.other (b.1.is ∙ e);
  fault_is = λ k. IdDiffers (b.0 k) (b.1.is k);
}
body_breaks id kind size at rest (Order p) b of = absurd b
body_breaks id kind size at rest (TooLarge limit) b of = absurd b
body_breaks id kind size at rest (Cut p) b of = record { body = short; is = b.1; differs = tt; fault_is = ap Cut b.0 }
body_breaks id kind size at rest (Failed p) b of = absurd of
body_breaks id kind size at rest Memory b of = absurd of

one_body_break : (id : List ℕ) (kind : Kind) (size at : ℕ) (rest : List ℕ) (a b : Break) → BodyBreaks id kind size at rest a → BodyBreaks id kind size at rest b → a ≡ b
one_body_break id kind size at rest a b x y = x.fault_is ∙ ap (body_fault id kind size at rest) (one_body size rest x.body y.body x.is y.is) ∙ sym y.fault_is

-- an object's own body breaks nothing
own_body : (id : List ℕ) (kind : Kind) (size at : ℕ) (rest body more : List ℕ) (fault : Break) → BodyBreaks id kind size at rest fault → rest ≡ body ++ 10 ∷ more → length body ≡ size → object_id kind body ≢ id
own_body id kind size at rest body more fault x e long =
    subst (Differs id kind) (one_body size rest x.body (whole body more) x.is (e, long)) x.differs

-- ---- at a record

-- what breaks, by what stands in front
abbrev pub BreaksAs : Last → ℕ → List ℕ → Break → Front → Type 0
BreaksAs last at rest fault unended = fault ≡ BadLine at
BreaksAs last at rest fault ended = fault ≡ Cut (at + length rest)
BreaksAs last at rest fault (says other more) = fault ≡ BadLine at
BreaksAs last at rest fault (says huge more) = fault ≡ TooLarge largest_body
BreaksAs last at rest fault (says (head id kind size) more) =
    ((fault ≡ Order at) × (ComesObject last id → ⊥)) ⊎ (ComesObject last id × BodyBreaks id kind size (at + (length (object_line id kind (decimal size)) + 1)) more fault)
BreaksAs last at rest fault (says (ref name id) more) = (fault ≡ Order at) × (ComesAfter last.name name → ⊥)
BreaksAs last at rest fault (says end more) = ⊥

pub record BreaksAt (last : Last) (at : ℕ) (rest : List ℕ) (fault : Break) : Type 0 where
  pub front : Front
  pub is : IsFront rest front
  pub as_it : BreaksAs last at rest fault front

pub head_front : (rest id : List ℕ) (kind : Kind) (size : ℕ) (more : List ℕ) → HasHead rest id kind size more → SaysLine (head id kind size) more rest
head_front rest id kind size more h = record {
  line = object_line id kind (decimal size);
  whole = h.whole;
  is_line = object_is_line id kind size h.is_id h.small;
  says = record { is = refl; is_id = h.is_id; small = h.small };
}

pub ref_front : (rest name id more : List ℕ) → rest ≡ ref_line name id ++ 10 ∷ more → IsRef (name, id) → SaysLine (ref name id) more rest
ref_front rest name id more found is = record { line = ref_line name id; whole = found; is_line = ref_is_line name id is; says = (refl, is) }

pub end_front : (rest more : List ℕ) → rest ≡ end_line ++ more → SaysLine end more rest
end_front rest more found = record { line = codes "end"; whole = found; is_line = record { one = refl; short = omega arith }; says = refl }

line_at : (last : Last) (at : ℕ) (rest : List ℕ) (fault : Break) → BreaksLine at rest fault → IsOfText fault → BreaksAt last at rest fault
line_at last at rest (BadLine p) b of = elim b.1 [
  | inl long ↦ record { front = unended; is = long; as_it = ap BadLine b.0 }
  | inr wrong ↦ record { front = says other wrong.more; is = record { line = wrong.line; whole = wrong.whole; is_line = wrong.is_line; says = wrong.wrong }; as_it = ap BadLine b.0 }
]
line_at last at rest (IdDiffers id found) b of = absurd b
line_at last at rest (Order p) b of = absurd b
line_at last at rest (TooLarge limit) b of = record { front = says huge b.1.more; is = record { line = b.1.line; whole = b.1.whole; is_line = b.1.is_line; says = b.1.wrong }; as_it = ap TooLarge b.0 }
line_at last at rest (Cut p) b of = record { front = ended; is = b.1; as_it = ap Cut b.0 }
line_at last at rest (Failed p) b of = absurd of
line_at last at rest Memory b of = absurd of

order_at : (last : Last) (at : ℕ) (rest : List ℕ) (fault : Break) → BreaksOrder last at rest fault → IsOfText fault → BreaksAt last at rest fault
order_at last at rest (BadLine p) b of = absurd b
order_at last at rest (IdDiffers id found) b of = absurd b
order_at last at rest (Order p) b of = elim b.1 [
  | inl object ↦ record { front = says (head object.id object.kind object.size) object.more; is = head_front rest object.id object.kind object.size object.more object.head; as_it = inl (ap Order b.0, object.late) }
  | inr late ↦ record { front = says (ref late.name late.id) late.more; is = ref_front rest late.name late.id late.more late.whole late.is_ref; as_it = (ap Order b.0, late.late) }
]
order_at last at rest (TooLarge limit) b of = absurd b
order_at last at rest (Cut p) b of = absurd b
order_at last at rest (Failed p) b of = absurd of
order_at last at rest Memory b of = absurd of

pub break_at : (last : Last) (at : ℕ) (rest : List ℕ) (fault : Break) → BreaksRecord last at rest fault → IsOfText fault → BreaksAt last at rest fault
break_at last at rest fault b of = elim b [
  | inl line ↦ line_at last at rest fault line of
  | inr more ↦ elim more [
    | inl order ↦ order_at last at rest fault order of
    | inr o ↦ record {
      front = says (head o.id o.kind o.size) o.more;
      is = head_front rest o.id o.kind o.size o.more o.head;
      as_it = inr (o.comes, body_breaks o.id o.kind o.size (at + (length (object_line o.id o.kind (decimal o.size)) + 1)) o.more fault o.breaks of);
    }
  ]
]

one_object : (last : Last) (at : ℕ) (rest id : List ℕ) (kind : Kind) (size : ℕ) (more : List ℕ) (a b : Break) → BreaksAs last at rest a (says (head id kind size) more) → BreaksAs last at rest b (says (head id kind size) more) → a ≡ b
one_object last at rest id kind size more a b x y = elim x [
  | inl late ↦ elim y [ inl too ↦ late.0 ∙ sym too.0 | inr comes ↦ absurd (late.1 comes.0) ]
  | inr comes ↦ elim y [ inl late ↦ absurd (late.1 comes.0) | inr too ↦ one_body_break id kind size (at + (length (object_line id kind (decimal size)) + 1)) more a b comes.1 too.1 ]
]

one_as : (last : Last) (at : ℕ) (rest : List ℕ) (a b : Break) (f : Front) → BreaksAs last at rest a f → BreaksAs last at rest b f → a ≡ b
one_as last at rest a b unended x y = x ∙ sym y
one_as last at rest a b ended x y = x ∙ sym y
one_as last at rest a b (says other more) x y = x ∙ sym y
one_as last at rest a b (says huge more) x y = x ∙ sym y
one_as last at rest a b (says (head id kind size) more) x y = one_object last at rest id kind size more a b x y
one_as last at rest a b (says (ref name id) more) x y = x.0 ∙ sym y.0
one_as last at rest a b (says end more) x y = absurd x

-- two breaks at one place agree
pub one_break : (last : Last) (at : ℕ) (rest : List ℕ) (a b : Break) → BreaksAt last at rest a → BreaksAt last at rest b → a ≡ b
one_break last at rest a b x y =
    one_as last at rest a b y.front (subst (BreaksAs last at rest a) (one_front rest x.front y.front x.is y.is) x.as_it) y.as_it

-- where something breaks, no record that may come stands
pub break_stop : (last : Last) (at : ℕ) (rest : List ℕ) (fault : Break) → BreaksAt last at rest fault → IsStop last rest
break_stop last at rest fault x = record {
  no_object = λ e more own comes same.
      let whole_is : rest ≡ object_line e.0 e.1.kind (decimal (length e.1.body)) ++ 10 ∷ (e.1.body ++ 10 ∷ more) = same ∙ object_then e more in
      let there = head_front rest e.0 e.1.kind (length e.1.body) (e.1.body ++ 10 ∷ more) (record { whole = whole_is; is_id = own.id; small = own.is.small }) in
      let as_it = subst (BreaksAs last at rest fault) (one_front rest x.front (says (head e.0 e.1.kind (length e.1.body)) (e.1.body ++ 10 ∷ more)) x.is there) x.as_it in
      elim as_it [
        | inl late ↦ late.1 comes
        | inr breaks ↦ own_body e.0 e.1.kind (length e.1.body) (at + (length (object_line e.0 e.1.kind (decimal (length e.1.body))) + 1)) (e.1.body ++ 10 ∷ more) e.1.body more fault breaks.1 refl refl own.is.own
      ];
  no_ref = λ f more is comes same.
      let there = ref_front rest f.0 f.1 more (same ∙ ref_then f more) is in
      (subst (BreaksAs last at rest fault) (one_front rest x.front (says (ref f.0 f.1) more) x.is there) x.as_it).1 comes;
}

-- nothing breaks at the last line
pub break_no_end : (last : Last) (at : ℕ) (rest more : List ℕ) (fault : Break) → BreaksAt last at rest fault → rest ≡ end_line ++ more → ⊥
break_no_end last at rest more fault x e = subst (BreaksAs last at rest fault) (one_front rest x.front (says end more) x.is (end_front rest more e)) x.as_it
