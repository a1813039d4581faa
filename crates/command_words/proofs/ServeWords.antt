-- The plain words of `serve` ask for it.
use Rattle.std.proofs.Common.{◌≡◌, ◌==◌, ◌<◌, ◌^◌, ℕ, Bool, true, false, List, ◌∷◌, refl, sym, subst, arith}
use Rattle.std.specs.Prelude.{Option, Some, codes, decimal}
use Rattle.std.specs.Option.{IsSomeAnd}
use Rattle.std.proofs.lemmas.Fmt.{first_decimal}
use Rattle.clap.specs.Faults.{defaults_fault, flags_fault, walk_fault}
use Rattle.clap.specs.Walk.{walked}
use Rattle.command_words.specs.Numbers.{IsCount, IsUpTo}
use Rattle.command_words.specs.Commands.{AsksService, serve_app}
use Rattle.command_words.specs.Grammars.{Takes, is_given, value_of}
use Rattle.command_words.specs.Laws.{flag_words}
use Rattle.command_words.proofs.ValueWords.{Begins, of_number}

-- a number from 1 on begins with a digit
pub begun : (most count : ℕ) → most < 2 ^ 64 → IsUpTo most count → Begins (decimal count)
begun most count low is = of_number (decimal count) (first_decimal count (omega (arith, is.some)) (omega (arith, low, is.few)))

pub counted : (most count : ℕ) → IsUpTo most count → IsCount most (decimal count) count
counted most count is = record { some = is.some; few = is.few; written = refl }

pub given_so : (most count : ℕ) (given : Option (List ℕ)) (text : List ℕ) → given ≡ Some text → IsCount most text count → IsSomeAnd given (λ t. IsCount most t count)
given_so most count given text e is = subst (λ (g : Option (List ℕ)). IsSomeAnd g (λ t. IsCount most t count)) (sym e) is

-- ---- serve
serve_taken : (a b c : ℕ) (port workers connections : List ℕ) (gate : Bool) → (a == 45) ≡ false → (b == 45) ≡ false → (c == 45) ≡ false
    → Takes serve_app ((a ∷ port) ∷ (b ∷ workers) ∷ (c ∷ connections) ∷ flag_words (codes "--gate") gate)
unfolding walk_fault walked flags_fault defaults_fault
serve_taken a b c port workers connections true first second third = simp first (simp second (rw third (rw third refl)))
serve_taken a b c port workers connections false first second third = simp first (simp second (simp third refl))

serve_port : (a b c : ℕ) (port workers connections : List ℕ) (gate : Bool) → (a == 45) ≡ false → (b == 45) ≡ false → (c == 45) ≡ false
    → value_of serve_app (codes "port") ((a ∷ port) ∷ (b ∷ workers) ∷ (c ∷ connections) ∷ flag_words (codes "--gate") gate) ≡ Some (a ∷ port)
unfolding walked
serve_port a b c port workers connections true first second third = simp first (simp second (simp third refl))
serve_port a b c port workers connections false first second third = simp first (simp second (simp third refl))

serve_workers : (a b c : ℕ) (port workers connections : List ℕ) (gate : Bool) → (a == 45) ≡ false → (b == 45) ≡ false → (c == 45) ≡ false
    → value_of serve_app (codes "workers") ((a ∷ port) ∷ (b ∷ workers) ∷ (c ∷ connections) ∷ flag_words (codes "--gate") gate) ≡ Some (b ∷ workers)
unfolding walked
serve_workers a b c port workers connections true first second third = simp first (simp second (simp third refl))
serve_workers a b c port workers connections false first second third = simp first (simp second (simp third refl))

serve_connections : (a b c : ℕ) (port workers connections : List ℕ) (gate : Bool) → (a == 45) ≡ false → (b == 45) ≡ false → (c == 45) ≡ false
    → value_of serve_app (codes "connections") ((a ∷ port) ∷ (b ∷ workers) ∷ (c ∷ connections) ∷ flag_words (codes "--gate") gate) ≡ Some (c ∷ connections)
unfolding walked
serve_connections a b c port workers connections true first second third = simp first (simp second (simp third refl))
serve_connections a b c port workers connections false first second third = simp first (simp second (simp third refl))

serve_flagged : (a b c : ℕ) (port workers connections : List ℕ) (gate : Bool) → (a == 45) ≡ false → (b == 45) ≡ false → (c == 45) ≡ false
    → is_given serve_app (codes "gate") ((a ∷ port) ∷ (b ∷ workers) ∷ (c ∷ connections) ∷ flag_words (codes "--gate") gate) ≡ gate
unfolding walked
serve_flagged a b c port workers connections true first second third = simp first (simp second (simp third refl))
serve_flagged a b c port workers connections false first second third = simp first (simp second (simp third refl))

serve_begun : (port workers connections : ℕ) (gate : Bool) (one two three : List ℕ) → Begins one → Begins two → Begins three
    → IsCount 65535 one port → IsCount 64 two workers → IsCount 1000000 three connections
    → AsksService port workers connections gate (one ∷ two ∷ three ∷ flag_words (codes "--gate") gate)
serve_begun port workers connections gate one two three first second third is_port are_workers are_connections =
    subst (λ (text : List ℕ). IsCount 65535 text port → AsksService port workers connections gate (text ∷ two ∷ three ∷ flag_words (codes "--gate") gate)) (sym first.is)
    (λ p. subst (λ (text : List ℕ). IsCount 64 text workers → AsksService port workers connections gate ((first.first ∷ first.rest) ∷ text ∷ three ∷ flag_words (codes "--gate") gate)) (sym second.is)
    (λ w. subst (λ (text : List ℕ). IsCount 1000000 text connections → AsksService port workers connections gate ((first.first ∷ first.rest) ∷ (second.first ∷ second.rest) ∷ text ∷ flag_words (codes "--gate") gate)) (sym third.is)
    (λ c. record {
      takes = serve_taken first.first second.first third.first first.rest second.rest third.rest gate first.no_dash second.no_dash third.no_dash;
      is_port = given_so 65535 port _ _ (serve_port first.first second.first third.first first.rest second.rest third.rest gate first.no_dash second.no_dash third.no_dash) p;
      are_workers = given_so 64 workers _ _ (serve_workers first.first second.first third.first first.rest second.rest third.rest gate first.no_dash second.no_dash third.no_dash) w;
      are_connections = given_so 1000000 connections _ _ (serve_connections first.first second.first third.first first.rest second.rest third.rest gate first.no_dash second.no_dash third.no_dash) c;
      flag = serve_flagged first.first second.first third.first first.rest second.rest third.rest gate first.no_dash second.no_dash third.no_dash;
    }) are_connections) are_workers) is_port

pub serve_asks : (port workers connections : ℕ) (gate : Bool) → IsUpTo 65535 port → IsUpTo 64 workers → IsUpTo 1000000 connections
    → AsksService port workers connections gate (decimal port ∷ decimal workers ∷ decimal connections ∷ flag_words (codes "--gate") gate)
serve_asks port workers connections gate p w c =
    serve_begun port workers connections gate (decimal port) (decimal workers) (decimal connections) (begun 65535 port (omega arith) p) (begun 64 workers (omega arith) w)
    (begun 1000000 connections (omega arith) c) (counted 65535 port p) (counted 64 workers w) (counted 1000000 connections c)
