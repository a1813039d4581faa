-- The plain words of `push` ask for it.
use Rattle.std.proofs.Common.{◌≡◌, ◌==◌, ℕ, false, List, [], ◌∷◌, sym, subst, arith}
use Rattle.std.specs.Prelude.{Some, codes, decimal}
use Rattle.clap.specs.Faults.{defaults_fault, flags_fault, walk_fault}
use Rattle.clap.specs.Walk.{walked}
use Rattle.command_words.specs.Numbers.{IsCount, IsUpTo}
use Rattle.command_words.specs.Commands.{AsksPush, push_app}
use Rattle.command_words.specs.Grammars.{Takes, value_of}
use Rattle.command_words.proofs.ServeWords.{begun, counted, given_so}
use Rattle.command_words.proofs.ValueWords.{Begins}

push_taken : (a b : ℕ) (port number : List ℕ) → (a == 45) ≡ false → (b == 45) ≡ false → Takes push_app ((a ∷ port) ∷ (b ∷ number) ∷ [])
unfolding walk_fault walked flags_fault defaults_fault
push_taken a b port number first second = simp (first, second)

push_port : (a b : ℕ) (port number : List ℕ) → (a == 45) ≡ false → (b == 45) ≡ false → value_of push_app (codes "port") ((a ∷ port) ∷ (b ∷ number) ∷ []) ≡ Some (a ∷ port)
unfolding walked
push_port a b port number first second = simp (first, second)

push_number : (a b : ℕ) (port number : List ℕ) → (a == 45) ≡ false → (b == 45) ≡ false → value_of push_app (codes "number") ((a ∷ port) ∷ (b ∷ number) ∷ []) ≡ Some (b ∷ number)
unfolding walked
push_number a b port number first second = simp (first, second)

push_begun : (port number : ℕ) (one two : List ℕ) → Begins one → Begins two → IsCount 65535 one port → IsCount 1000000 two number → AsksPush port number (one ∷ two ∷ [])
push_begun port number one two first second is_port is_number =
    subst (λ (text : List ℕ). IsCount 65535 text port → AsksPush port number (text ∷ two ∷ [])) (sym first.is)
    (λ p. subst (λ (text : List ℕ). IsCount 1000000 text number → AsksPush port number ((first.first ∷ first.rest) ∷ text ∷ [])) (sym second.is)
    (λ n. record {
      takes = push_taken first.first second.first first.rest second.rest first.no_dash second.no_dash;
      is_port = given_so 65535 port _ _ (push_port first.first second.first first.rest second.rest first.no_dash second.no_dash) p;
      is_number = given_so 1000000 number _ _ (push_number first.first second.first first.rest second.rest first.no_dash second.no_dash) n;
    }) is_number) is_port

pub push_asks : (port number : ℕ) → IsUpTo 65535 port → IsUpTo 1000000 number → AsksPush port number (decimal port ∷ decimal number ∷ [])
push_asks port number p n =
    push_begun port number (decimal port) (decimal number) (begun 65535 port (omega arith) p) (begun 1000000 number (omega arith) n) (counted 65535 port p) (counted 1000000 number n)
