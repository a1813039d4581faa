-- The text of a reply: a status line, three fields, an empty line and the body (RFC 9112, sections 4 to 6).
use Rattle.std.specs.Prelude.{◌++◌, ◌∷◌, [], ℕ, Bool, List, codes, decimal, length, nat_eq, unwrap_or}
use Rattle.std.specs.List.{list_any}
use Rattle.http.specs.StatusCode.{code_digits, reason_phrase}

-- the codes of replies
abbrev pub reply_codes : List ℕ
reply_codes = 200 ∷ 201 ∷ 400 ∷ 403 ∷ 404 ∷ 405 ∷ 409 ∷ 411 ∷ 413 ∷ 422 ∷ 500 ∷ 502 ∷ 503 ∷ []

abbrev pub is_reply_code : ℕ → Bool
is_reply_code code = list_any (nat_eq code) reply_codes

-- the phrase of a code
unfoldable pub phrase_of : ℕ → List ℕ
phrase_of code = unwrap_or (reason_phrase code) []

-- what stands in front of a body of this length
abbrev pub reply_head : ℕ → ℕ → List ℕ
reply_head code len =
    codes "HTTP/1.1 " ++ code_digits code ++ codes " " ++ phrase_of code
    ++ codes "\r\ncontent-type: text/plain\r\ncontent-length: " ++ decimal len ++ codes "\r\nconnection: close\r\n\r\n"

-- the whole text
abbrev pub reply_text : ℕ → List ℕ → List ℕ
reply_text code body = reply_head code (length body) ++ body
