-- Which texts end as a glob does.
use Rattle.std.specs.Prelude.{ℕ, ◌==◌, ◌||◌, Bool, true, false, List, [], ◌∷◌, Option, Some, None}

-- the last byte
abbrev pub end_of : List ℕ → Option ℕ
end_of [] = None
end_of (x ∷ []) = Some x
end_of (x ∷ y ∷ ys) = end_of (y ∷ ys)

abbrev pub is_byte : ℕ → Option ℕ → Bool
is_byte p None = false
is_byte p (Some y) = p == y

-- a text of this end may be matched by a glob of that: the glob has none, it is `*` or `?`, or both are one byte
abbrev pub may_end : Option ℕ → Option ℕ → Bool
may_end None text = true
may_end (Some p) text = p == 42 || (p == 63 || is_byte p text)
