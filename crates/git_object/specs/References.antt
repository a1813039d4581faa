-- The references that gittuf keeps beside that of its log.
use Rattle.std.specs.Prelude.{ℕ, List, codes}

-- the reference whose entries are policies
abbrev pub policy_name : List ℕ
policy_name = codes "refs/gittuf/policy"

-- the reference whose entries are attestations
abbrev pub attestations_name : List ℕ
attestations_name = codes "refs/gittuf/attestations"
