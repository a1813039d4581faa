-- Rule files, read one after the other.
use Rattle.std.proofs.Common.{◌≡◌, ◌+◌, ◌<◌, ◌≤◌, ℕ, List, [], ◌∷◌, ◌++◌, Option, Some, None, Result, Ok, Err, refl, sym, ap, ◌∙◌, length, drop, drop-cons, get_or, add-one, append_assoc, map, subst, take}
use Rattle.std.proofs.Math.ListN.{drop_of_length-le}
use Rattle.std.specs.Prelude.{IfSome}
use Rattle.std.proofs.lemmas.List.{append-nil, map-append, take_more}
use Rattle.git_object.specs.Repository.{Repository}
use Rattle.policy_epochs.specs.declared.faults.PolicyFault.{PolicyFault}
use Rattle.policy_epochs.specs.declared.faults.PolicyFault.TheVariants.{BadFile}
use Rattle.policy_reading.specs.Signed.{after, put_first, read_files, rule_file_at}
use Rattle.policy_reading.specs.declared.found_files.FileAt.{FileAt}
use Rattle.policy_reading.specs.declared.signed_files.SignedFile.{SignedFile}

pub after_none : (rest : Result (List SignedFile) PolicyFault) → rest ≡ after [] rest
after_none (Ok files) = refl
after_none (Err fault) = refl

after_one : (files : List SignedFile) (stem : List ℕ) (file : SignedFile) (rest : Result (List SignedFile) PolicyFault) → after files (put_first stem (Some file) rest) ≡ after (files ++ file ∷ []) rest
after_one files stem file (Ok more) = ap Ok (sym (append_assoc files (file ∷ []) more))
after_one files stem file (Err fault) = refl

module _ (r : Repository) (ats : List FileAt) (i : ℕ) (files : List SignedFile) (whole : Result (List SignedFile) PolicyFault) (is : whole ≡ after files (read_files r (drop i ats))) where
  at_place : (at : FileAt) → i < length ats → at ≡ get_or ats i at → (found : Option SignedFile) → found ≡ rule_file_at r at → whole ≡ after files (put_first at.stem found (read_files r (drop (i + 1) ats)))
  at_place at less there found read =
      let parts : drop i ats ≡ at ∷ drop (i + 1) ats = rw (add-one, drop-cons ats i at, ← there) refl in
      is ∙ ap (λ (rest : List FileAt). after files (read_files r rest)) parts ∙ ap (λ (f : Option SignedFile). after files (put_first at.stem f (read_files r (drop (i + 1) ats)))) (sym read)

  pub read_bad : (at : FileAt) (found : Option SignedFile) → i < length ats → at ≡ get_or ats i at → found ≡ rule_file_at r at → found ≡ None → Err (BadFile at.stem) ≡ whole
  read_bad at found less there read none =
      sym (at_place at less there found read ∙ ap (λ (f : Option SignedFile). after files (put_first at.stem f (read_files r (drop (i + 1) ats)))) none)

  pub read_more : (at : FileAt) (found : Option SignedFile) (file : SignedFile) → i < length ats → at ≡ get_or ats i at → found ≡ rule_file_at r at → found ≡ Some file → whole ≡ after (files ++ file ∷ []) (read_files r (drop (i + 1) ats))
  read_more at found file less there read some =
      at_place at less there found read ∙ ap (λ (f : Option SignedFile). after files (put_first at.stem f (read_files r (drop (i + 1) ats)))) some
      ∙ after_one files at.stem file (read_files r (drop (i + 1) ats))

  pub read_end : length ats ≤ i → Ok files ≡ whole
  read_end end = sym (is ∙ ap (λ (rest : List FileAt). after files (read_files r rest)) (drop_of_length-le ats end) ∙ ap Ok (append-nil files))

pub names_more : (ats : List FileAt) (i : ℕ) (files more : List SignedFile) (at : FileAt) (found : Option SignedFile) (file : SignedFile) → more ≡ files ++ file ∷ [] → map (λ (f : SignedFile). f.file.name) files ≡ map (λ (a : FileAt). a.stem) (take i ats)
    → IfSome found (λ (f : SignedFile). f.file.name ≡ at.stem) → found ≡ Some file → i < length ats → at ≡ get_or ats i at → map (λ (f : SignedFile). f.file.name) more ≡ map (λ (a : FileAt). a.stem) (take (i + 1) ats)
names_more ats i files more at found file pushed before named some less there =
    let name : file.file.name ≡ at.stem = subst (λ (o : Option SignedFile). IfSome o (λ (f : SignedFile). f.file.name ≡ at.stem)) some named in
    ap (map (λ (f : SignedFile). f.file.name)) pushed ∙ map-append (λ (f : SignedFile). f.file.name) files (file ∷ [])
    ∙ (λ k. before k ++ name k ∷ [])
    ∙ sym (map-append (λ (a : FileAt). a.stem) (take i ats) (at ∷ [])) ∙ ap (map (λ (a : FileAt). a.stem)) (sym (take_more ats i at less ∙ ap (λ (a : FileAt). take i ats ++ a ∷ []) (sym there)))
