-- The request that sends a push (RFC 9112, sections 3 and 6).
use Rattle.std.specs.Prelude.{◌++◌, ℕ, List, codes, decimal, length}

-- what stands in front of a body of this length
abbrev pub request_head : ℕ → List ℕ
request_head len =
    codes "POST /v1/push HTTP/1.1\r\nhost: localhost\r\ncontent-length: " ++ decimal len ++ codes "\r\n\r\n"

-- the request of a push's text
abbrev pub request_text : List ℕ → List ℕ
request_text body = request_head (length body) ++ body
