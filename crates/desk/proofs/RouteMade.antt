-- What W makes of a route.
use mathlib.Core.Path.{◌≡◌, refl}
use mathlib.Core.Logic.{◌⊎◌, inl, inr}
use Rattle.higman.specs.Words.{Word}
use Rattle.higman.specs.Tables.{image, froms}
use Rattle.higman.specs.Limits.{Plan}
use Rattle.higman.specs.Answers.{Route, Image, TooShort, NotRouted}
use Rattle.higman.specs.Places.{place_of, placed_block}
use Rattle.desk.specs.Replies.{Reply, ok_image, ok_block}
use Rattle.desk.specs.Replies.{of_route}
use Rattle.desk.proofs.Outcomes.{Passes, stops, passes}

-- an image, or the block
abbrev pub RouteMade : Plan → Word → Route → Reply → Type 0
RouteMade p w r reply =
    ((v : Word) × (r ≡ Image v) × (reply ≡ ok_image v (place_of (froms p.rows) w)))
    ⊎ ((r ≡ TooShort) × (reply ≡ ok_block (placed_block p.rows w)))

pub route_made : (p : Plan) (w : Word) (r : Route) → Passes (RouteMade p w r) (of_route p w r)
route_made p w (Image v) = passes (inl (v, refl, refl))
route_made p w TooShort = passes (inr (refl, refl))
route_made p w (NotRouted r) = stops
