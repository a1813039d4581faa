use Rattle.std.proofs.Common.{rules, ◌≡◌, ◌+◌, ◌++◌, List, ℕ, length, take, refl, ap, ◌∙◌, sym}
use Rattle.leaf_journal.specs.Loading.{magic_for}
use Rattle.leaf_journal.proofs.HeaderParts.{magic_long, parts_at, top_of}
use Rattle.leaf_journal.proofs.headers.write_top.Goals as goal

pub returns-clause-top : goal.returns-clause-top
returns-clause-top c =
    let magic_len : length c.magic.result ≡ 8 = ap (λ (l : List ℕ). length l) c.magic.ensures ∙ magic_long c.args.two in
    let lms_long : length c.to_be_bytes.result ≡ 4 = ap (λ (l : List ℕ). length l) c.to_be_bytes.ensures in
    let ots_long : length c.to_be_bytes-2.result ≡ 4 = ap (λ (l : List ℕ). length l) c.to_be_bytes-2.ensures in
    let i_long : length c.args.i.now ≡ 16 = c.told-i in
    let seed_long : length c.args.seed.now ≡ 32 = c.told-seed in
    let magic : take 8 c.put.new.out ≡ c.magic.result = ap (λ (n : ℕ). take (0 + n) c.put.new.out) (sym magic_len) ∙ c.put.ensures.front in
    let lms : take 12 c.put-2.new.out ≡ take 8 c.put.new.out ++ c.to_be_bytes.result = ap (λ (n : ℕ). take (8 + n) c.put-2.new.out) (sym lms_long) ∙ c.put-2.ensures.front in
    let ots : take 16 c.put-3.new.out ≡ take 12 c.put-2.new.out ++ c.to_be_bytes-2.result = ap (λ (n : ℕ). take (12 + n) c.put-3.new.out) (sym ots_long) ∙ c.put-3.ensures.front in
    let i : take 32 c.put-4.new.out ≡ take 16 c.put-3.new.out ++ c.args.i.now = ap (λ (n : ℕ). take (16 + n) c.put-4.new.out) (sym i_long) ∙ c.put-4.ensures.front in
    let seed : take 64 c.put-5.new.out ≡ take 32 c.put-4.new.out ++ c.args.seed.now = ap (λ (n : ℕ). take (32 + n) c.put-5.new.out) (sym seed_long) ∙ c.put-5.ensures.front in
    let long : length c.put-5.new.out ≡ 64 = search rules in
    top_of (magic_for c.args.two) (record { lms = c.args.lms; ots = c.args.ots; i = c.args.i.now; seed = c.args.seed.now }) _ _ _ _ _ _ c.code.result c.code-2.result
    (parts_at _ _ _ _ _ _ _ _ _ _ magic_len lms_long ots_long i_long seed_long long magic lms ots i seed)
    c.magic.ensures c.to_be_bytes.ensures c.code.ensures c.to_be_bytes-2.ensures c.code-2.ensures refl refl
