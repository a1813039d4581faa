use Rattle.std.proofs.Common.{◌≡◌, [], ◌∷◌, ◌++◌, ◌||◌, Bool, false, ℕ, length, sym, ap, ◌∙◌, arith, length-append}
use Rattle.std.proofs.lemmas.Bool.{ne_eqb}
use Rattle.text_reader.proofs.Unique.{no_byte}
use Rattle.std.specs.Prelude.{Option}
use Rattle.octets.specs.Content.{with_front}
use Rattle.buffered_reader.specs.Ahead.{ahead}
use Rattle.buffered_reader.specs.Bytes.{bytes_of}
use Rattle.edge_io.proofs.Taken.{with_fronts}
use Rattle.buffered_reader.proofs.Fronts.{too_long}
use Rattle.buffered_reader.proofs.reader.BufferedReader.line.Goals as goal

pub returns-then-len-eq399-clause-long : goal.returns-then-len-eq399-clause-long
returns-then-len-eq399-clause-long g c = λ _.
    let line = c.bytes.line in
    let after = ahead c.byte.new.self (g.S.Source.left c.byte.new.source) in
    let read : ahead c.args.self.now (g.S.Source.left c.args.source.now) ≡ with_front line (with_front (c.in-Some.byte ∷ []) after) =
    c.bytes.invariant.bytes ∙ ap (with_front line) (c.in_ok-byte.ensures.ahead ∙ ap (λ (o : Option ℕ). with_front (bytes_of o) after) c.in-Some.is) in
    too_long (ahead c.args.self.now (g.S.Source.left c.args.source.now)) after line c.in-Some.byte (read ∙ with_fronts line (c.in-Some.byte ∷ []) after)
    c.bytes.invariant.one (sym c.len.ensures ∙ c.if-len-eq399.true) c.if-byte-eq10.false

pub returns-then-len-eq399-clause-long_taken : goal.returns-then-len-eq399-clause-long_taken
returns-then-len-eq399-clause-long_taken g c = λ _.
    let line = c.bytes.line in
    let byte = c.in-Some.byte in
    let after = ahead c.byte.new.self (g.S.Source.left c.byte.new.source) in
    let read : ahead c.args.self.now (g.S.Source.left c.args.source.now) ≡ with_front line (with_front (byte ∷ []) after) =
    c.bytes.invariant.bytes ∙ ap (with_front line) (c.in_ok-byte.ensures.ahead ∙ ap (λ (o : Option ℕ). with_front (bytes_of o) after) c.in-Some.is) in
    let full : length line ≡ 399 = sym c.len.ensures ∙ c.if-len-eq399.true in
    let one = ap (λ (o : Option ℕ). length (bytes_of o)) c.in-Some.is in
    record {
      part = line ++ byte ∷ [];
      read = read ∙ with_fronts line (byte ∷ []) after;
      one = no_byte 10 line (byte ∷ []) c.bytes.invariant.one (ap (λ (t : Bool). t || false) (ne_eqb byte 10 c.if-byte-eq10.false));
      long = omega (arith, length-append line (byte ∷ []));
      taken = omega (arith, c.bytes.invariant.taken, c.in_ok-byte.ensures.taken);
    }
