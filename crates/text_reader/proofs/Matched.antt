-- One side of a fact about both variants of an option.
use Rattle.std.specs.Prelude.{Option, Some, None, MatchOption, IfSome, IfNone}

pub if_some : {A : Type 0} (P : Type 0) (Q : A → Type 0) (o : Option A) → MatchOption o P Q → IfSome o Q
if_some P Q None h = tt
if_some P Q (Some x) h = h

pub if_none : {A : Type 0} (P : Type 0) (Q : A → Type 0) (o : Option A) → MatchOption o P Q → IfNone o P
if_none P Q None h = h
if_none P Q (Some x) h = tt
