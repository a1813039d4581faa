use Rattle.std.proofs.Common.{◌≡◌, ℕ, List, [], ◌++◌, codes, ap, ◌∙◌}
use Rattle.std.specs.Prelude.{Option, Some, unwrap_or}
use Rattle.std.proofs.lemmas.Result.{OkIff-at_ok}
use Rattle.http.specs.StatusCode.{IsStatusCode, code_digits, reason_phrase}
use Rattle.desk_messages.specs.Texts.{phrase_of}
use Rattle.desk_messages.proofs.reply_heads.status_line.Goals as goal

phrase_is : (code : ℕ) (text : List ℕ) → Some text ≡ reason_phrase code → text ≡ phrase_of code
unfolding phrase_of
phrase_is code text e = ap (λ (o : Option (List ℕ)). unwrap_or o []) e

pub returns-clause-text : goal.returns-clause-text
returns-clause-text c =
    let code = c.args.code in
    let status : c.in-Ok.status ≡ code = (OkIff-at_ok c.from_u16.result (IsStatusCode code) code c.in-Ok.status c.from_u16.ensures c.in-Ok.is).1 in
    let said : Some c.in-Some.phrase.now ≡ reason_phrase c.in-Ok.status = c.in-Some.ensures.value in
    let phrase = phrase_is code c.in-Some.phrase.now (said ∙ ap reason_phrase status) in
    let one : c.append.new.self ≡ codes "HTTP/1.1 " = c.append.ensures ∙ ap (λ (l : List ℕ). l ++ codes "HTTP/1.1 ") c.new-line.ensures in
    let two : c.append-2.new.self ≡ codes "HTTP/1.1 " ++ code_digits code =
    c.append-2.ensures ∙ ap (λ (l : List ℕ). l ++ c.as_bytes.result.now) one ∙ ap (λ (d : List ℕ). codes "HTTP/1.1 " ++ d) (c.as_bytes.ensures.value ∙ c.as_str.ensures ∙ ap code_digits status) in
    let three : c.append-3.new.self ≡ codes "HTTP/1.1 " ++ code_digits code ++ codes " " = c.append-3.ensures ∙ ap (λ (l : List ℕ). l ++ codes " ") two in
    c.append-4.ensures ∙ ap (λ (l : List ℕ). l ++ c.as_bytes-2.result.now) three
    ∙ ap (λ (p : List ℕ). codes "HTTP/1.1 " ++ code_digits code ++ codes " " ++ p) (c.as_bytes-2.ensures.value ∙ phrase)
