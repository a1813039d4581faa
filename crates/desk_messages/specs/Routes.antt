-- The routes of the desk, in the order of their texts, and which one a target has.
use Rattle.std.specs.Prelude.{ℕ, List, [], ◌∷◌, ◌++◌, Option, Some, None, codes, option_map, drop, length, bytes_eq}
use Rattle.std.specs.Prelude.{◌≡◌, Result, Ok, Err, if◌then◌else◌}
use Rattle.matchit.specs.Rows.{RowsOf, catch_all_token}
use Rattle.matchit.specs.Router.{RouteOf}
use Rattle.matchit.specs.Seek.{first}
use Rattle.desk_messages.specs.declared.routes.Page.{Page}
use Rattle.desk_messages.specs.declared.routes.Page.TheVariants.{Tip, Verify, Stream, Push}
use Rattle.desk_messages.specs.declared.routes.Choice.{Choice}
use Rattle.desk_messages.specs.declared.routes.Choice.TheVariants.{Is, No, Memory}
use Rattle.desk_messages.specs.declared.requests.Refusal.{Refusal}
use Rattle.desk_messages.specs.declared.requests.Refusal.TheVariants.{NotFound, MethodNotAllowed}

-- what stands in front of the name in the route of a verdict
abbrev pub verify_front : List ℕ
verify_front = codes "/v1/verify/"

-- a route as matchit keeps it: its text as tokens, its text, where the names of its parameters stand, and its page
abbrev pub route : List ℕ → List ℕ → List (ℕ × ℕ) → Page → List ℕ × RouteOf Page
route tokens text names page = (tokens, record { pattern = tokens; text = text; names = names; value = page })

-- all routes
unfoldable pub routes : RowsOf (RouteOf Page)
routes =
    route (codes "/v1/push") (codes "/v1/push") [] Push
    ∷ route (codes "/v1/stream") (codes "/v1/stream") [] Stream
    ∷ route (codes "/v1/tip") (codes "/v1/tip") [] Tip
    ∷ route (verify_front ++ catch_all_token ∷ []) (codes "/v1/verify/{*ref}") ((13, 16) ∷ []) Verify ∷ []

-- the page of a target
abbrev pub page_of : List ℕ → Option Page
page_of target = option_map (λ found. found.value) (first routes target)

-- the name that a target of the verdict's route holds
abbrev pub name_in : List ℕ → List ℕ
name_in target = drop (length verify_front) target

-- the method of a page
abbrev pub method_of : Page → List ℕ
method_of Tip = codes "GET"
method_of Verify = codes "GET"
method_of Stream = codes "GET"
method_of Push = codes "POST"

-- the page that is asked for by a method, or why none is
abbrev pub allowed : List ℕ → Option Page → Result Page Refusal
allowed method None = Err NotFound
allowed method (Some page) = if bytes_eq method (method_of page) then Ok page else Err MethodNotAllowed

-- a choice is that, or want of memory
abbrev pub IsAllowed : Result Page Refusal → Choice → Type 0
IsAllowed wanted (Is page) = wanted ≡ Ok page
IsAllowed wanted (No why) = wanted ≡ Err why
IsAllowed wanted Memory = Unit {0}
