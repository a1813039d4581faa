-- The push of the entry of a number, by the log that was loaded and what making the push came to.
use Rattle.std.proofs.Common.{◌≡◌, ℕ, zero, suc, ◌<◌, ◌≤◌, ◌+◌, Bool, true, false, List, [], ◌∷◌, ◌++◌, Option, Some, length, take, drop, refl, sym, ap, subst, ◌∙◌, append_assoc, arith, length-append}
use Rattle.std.specs.Prelude.{◌||◌, Result, Ok, Err, get_or, slice_get}
use Rattle.std.specs.Str.{bytes_eq}
use Rattle.std.proofs.lemmas.Bool.{true≢false}
use Rattle.std.proofs.lemmas.Slice.Eq.{bytes_eq-Decides}
use Rattle.git_object.specs.Repository.{Repository}
use Rattle.rsl_chain.specs.Logs.{IsBrokenAs, IsLogOf}
use Rattle.rsl_chain.specs.declared.log_faults.LogFault.{LogFault}
use Rattle.rsl_chain.specs.declared.log_faults.LogFault.TheVariants as log_
use Rattle.rsl_chain.proofs.Entered.{never_misses}
use Rattle.pushes.specs.Needing.{has}
use Rattle.pushes.specs.Making.{IsPushOf, Makes}
use Rattle.pushes.specs.declared.make_faults.MakeFault.{MakeFault}
use Rattle.pushes.specs.declared.make_faults.MakeFault.TheVariants as make
use Rattle.commands_desk.specs.Faults.{of_log, of_making}
use Rattle.commands_desk.specs.Preparing.{OfEntry, Prepares, StandsAt}
use Rattle.commands_desk.specs.declared.faults.PushFault.TheVariants.{NoEntry}

-- ---- a place among ids

-- what stands among ids stands behind some of them
record IsAmong (ids : List (List ℕ)) (q : List ℕ) : Type 0 where
  front : List (List ℕ)
  rest : List (List ℕ)
  whole : ids ≡ front ++ q ∷ rest

among : (ids : List (List ℕ)) (q : List ℕ) → has ids q ≡ true → IsAmong ids q
among [] q h = absurd (true≢false (sym h))
among (x ∷ ids) q h = by_test (λ (g : has ids q ≡ true). among ids q g) (bytes_eq x q) refl h
  where
    by_test : (has ids q ≡ true → IsAmong ids q) → (b : Bool) → bytes_eq x q ≡ b → (b || has ids q) ≡ true → IsAmong (x ∷ ids) q
    by_test further true e h' = record { front = []; rest = ids; whole = ap (λ (i : List ℕ). i ∷ ids) ((bytes_eq-Decides x q).0 e) }
    by_test further false e h' =
        let more = further h' in
        record { front = x ∷ more.front; rest = more.rest; whole = ap (λ (i : List (List ℕ)). x ∷ i) more.whole }

-- among more ids too
behind : (xs ys : List (List ℕ)) (q : List ℕ) → IsAmong xs q → IsAmong (xs ++ ys) q
behind xs ys q is = record {
  front = is.front;
  rest = is.rest ++ ys;
  whole = ap (λ (i : List (List ℕ)). i ++ ys) is.whole ∙ append_assoc is.front (q ∷ is.rest) ys;
}

-- the id at a place stands behind those before it
pub stands : (ids : List (List ℕ)) (place : ℕ) (id : List ℕ) (number : ℕ) → slice_get ids place ≡ Some id → number ≡ place + 1 → StandsAt ids number (take place ids) id
stands ids place id number there is = record { rest = drop (suc place) ids; whole = split ids place id there; numbered = omega (arith, is, long ids place id there) }
  where
    same_some : (a b : List ℕ) → Some a ≡ Some b → a ≡ b
    same_some a b e = cc

    split : (xs : List (List ℕ)) (n : ℕ) (x : List ℕ) → slice_get xs n ≡ Some x → xs ≡ take n xs ++ x ∷ drop (suc n) xs
    split [] n x e = absurd (cc e)
    split (y ∷ xs) zero x e = ap (λ (i : List ℕ). i ∷ xs) (same_some y x e)
    split (y ∷ xs) (suc n) x e = ap (λ (i : List (List ℕ)). y ∷ i) (split xs n x e)

    long : (xs : List (List ℕ)) (n : ℕ) (x : List ℕ) → slice_get xs n ≡ Some x → length (take n xs) ≡ n
    long [] n x e = absurd (cc e)
    long (y ∷ xs) zero x e = refl
    long (y ∷ xs) (suc n) x e = ap suc (long xs n x e)

-- no id stands at number 0, or past the last
pub none_at_zero : (ids before : List (List ℕ)) (id : List ℕ) (number : ℕ) → number ≡ 0 → StandsAt ids number before id → ⊥
none_at_zero ids before id number none at = let is = at.numbered in omega (arith, is, none)

pub none_past : (ids before : List (List ℕ)) (id : List ℕ) (number : ℕ) → length ids < number → StandsAt ids number before id → ⊥
none_past ids before id number past at =
    let is = at.numbered in
    let len : length ids ≡ length before + length (id ∷ at.rest) = ap length at.whole ∙ length-append before (id ∷ at.rest) in
    omega (arith, is, len, past)

-- ---- the push

module _ (held : Option Repository) (number : ℕ) where
  pub unloaded : (fault : LogFault) → ((r : Repository) → held ≡ Some r → IsBrokenAs r fault) → Prepares held number (Err (of_log fault))
  unloaded (log_.Broken id) told = told
  unloaded log_.Failed told = tt
  unloaded log_.Memory told = tt

  module _ (ids : List (List ℕ)) (log : (r : Repository) → held ≡ Some r → IsLogOf r ids) where
    pub no_entry : ((before : List (List ℕ)) (id : List ℕ) → StandsAt ids number before id → ⊥) → Prepares held number (Err NoEntry)
    no_entry none = λ r told. record { ids = ids; log = log r told; none = none }

    module _ (before : List (List ℕ)) (id : List ℕ) (at : StandsAt ids number before id) where
      of_entry : (So : Repository → List (List ℕ) → List ℕ → Type 0) (r : Repository) → held ≡ Some r → So r before id → OfEntry r number So
      of_entry So r told so = record { ids = ids; log = log r told; before = before; id = id; stands = at; so = so }

      whole : ids ≡ (before ++ id ∷ []) ++ at.rest
      whole = at.whole ∙ sym (append_assoc before (id ∷ []) at.rest)

      pub ready : (text : List ℕ) → ((r : Repository) → held ≡ Some r → Makes r before id (Ok text)) → IsPushOf id text → Prepares held number (Ok text)
      ready text makes push = record { id = id; push = push; told = λ r told. of_entry _ r told (makes r told) }

      pub unmade : (fault : MakeFault) → ((r : Repository) → held ≡ Some r → Makes r before id (Err fault)) → Prepares held number (Err (of_making fault))
      unmade (make.Broken named) makes = λ r told.
          let none = makes r told in
          let is = behind (before ++ id ∷ []) at.rest named (among (before ++ id ∷ []) named none.among) in
          absurd (never_misses r ids is.front named is.rest (log r told) (whole ∙ is.whole) none.none)
      unmade (make.Missing missing) makes = λ r told. of_entry _ r told (makes r told)
      unmade make.TooLarge makes = λ r told. of_entry _ r told (makes r told)
      unmade make.KeeperFailed makes = tt
      unmade make.Memory makes = tt
