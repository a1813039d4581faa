use Rattle.std.proofs.Common.{◌≡◌, ◌≤◌, ◌<◌, ◌⊎◌, ◌+◌, ◌-◌, ◌∙◌, ◌==◌, ℕ, List, length, inl, inr, sym, ap, subst, arith}
use Rattle.std.proofs.lemmas.Bool.{false≢true}
use Rattle.object_making.proofs.Taking.{no_row, one_more, passes}
use Rattle.object_making.specs.Rows.{Row}
use Rattle.object_making.specs.Reading.{row_of}
use Rattle.object_making.proofs.listings.read_listing.Goals as goal

few : (n room long : ℕ) → ((262144 ≤ n) ⊎ (room < long) → ⊥) → n < 262144
few n room long none = omega (arith, λ (many : 262144 ≤ n). none (inl many))

fits : (n room long : ℕ) → ((262144 ≤ n) ⊎ (room < long) → ⊥) → long ≤ room
fits n room long none = omega (arith, λ (past : room < long). none (inr past))

less : (room long : ℕ) → long ≤ room → (room - long) + long ≡ room
less room long within = omega (arith, within)

pub returns-in_default-clause-refused : goal.returns-in_default-clause-refused
returns-in_default-clause-refused c _ =
    no_row c.args.text.now c.rows.rest.now c.rows.listing c.rows.room c.rows.invariant (λ none. false≢true (c.rows-test.ensures ∙ ap (λ (r : List ℕ). length r == 0) none))
    (λ row after is same. c.in_default.ensures.none row after is same)

pub returns-then-is_past-clause-refused : goal.returns-then-is_past-clause-refused
returns-then-is_past-clause-refused c _ =
    let found = c.in-Some.found in
    let row : Row = row_of found.0.mode found.0.path.now found.0.body.now in
    passes c.args.text.now c.rows.rest.now c.rows.listing c.rows.room c.rows.invariant row found.1.now c.in-Some.ensures.row c.in-Some.ensures.found
    (subst (λ (n : ℕ). (262144 ≤ n) ⊎ (c.rows.room < length found.0.path.now)) c.len.ensures (c.is_past.ensures.0 c.if-is_past.true))

pub rows-preserved : goal.rows-preserved
rows-preserved c =
    let found = c.in-Some.found in
    let row : Row = row_of found.0.mode found.0.path.now found.0.body.now in
    let within = λ (limit : (262144 ≤ c.len.result) ⊎ (c.rows.room < length found.0.path.now)). false≢true (sym c.if-is_past.false ∙ c.is_past.ensures.1 limit) in
    one_more c.args.text.now c.rows.rest.now c.rows.listing c.rows.room c.rows.invariant row found.1.now c.push_row.new.listing (c.rows.room - length found.0.path.now) c.in-Some.ensures.row c.in-Some.ensures.found
    (subst (λ (n : ℕ). n < 262144) c.len.ensures (few c.len.result c.rows.room (length found.0.path.now) within))
    (less c.rows.room (length found.0.path.now) (fits c.len.result c.rows.room (length found.0.path.now) within))
    c.in_ok-push_row.ensures.listed c.in_ok-push_row.ensures.blobs
