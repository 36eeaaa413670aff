-- The jobs of S, W and L by what the slots hold, and what the functions on lent plans tell of them where there is room for the reply.
use Prim.Native.Nat.{ℕ, ◌≤◌}
use mathlib.Core.Path.{◌≡◌, refl, sym, ◌∙◌, ap}
use mathlib.Core.Bool.{Bool, true, false}
use mathlib.Core.List.{List}
use mathlib.Core.Option.{Option, none}
use borrow.Author.Tests.{le-leb}
use mir.Val.{bool_byte}
use lib.Dec.{leb}
use lib.ListN.{length}
use Rattle.std.specs.Prelude.{Ok, Err}
use Rattle.higman.specs.Words.{Word}
use Rattle.higman.specs.Tables.{froms}
use Rattle.higman.specs.Limits.{Plan}
use Rattle.higman.specs.Text.{Bytes, word_bytes, word_of}
use Rattle.higman.specs.Answers as Of
use Rattle.higman.specs.Answers.{same, routed}
use Rattle.higman.specs.Places.{place_of, placed_block}
use Rattle.higman.specs.Refusals.{Letter}
use Rattle.higman.specs.Listing.{is_slot, listing}
use Rattle.higman.specs.Buffers.{written, lent_into}
use Rattle.desk.specs.Desk.{Desk}
use Rattle.desk.specs.Records.{S, W, L}
use Rattle.desk.specs.Replies.{◌>>=◌, Outcome, refuse, pass, Effect, plan_in, of_comparison, of_route, bit, ok_number, ok_image, ok_block, lists}
use Rattle.desk.specs.Replies.{job}
use Rattle.tables.specs.declared.routing.Image.{Image}
use Rattle.operations.specs.declared.refusals.Refusal.{Refusal}
use Rattle.operations.specs.declared.refusals.Refusal.TheVariants as The
use Rattle.operations.specs.declared.Route.{Route}
use Rattle.operations.specs.declared.Route.TheVariants as Routes
use Rattle.operations.specs.Refusals.{number_of, refusal, refusal_numbered}
use Rattle.operations.specs.Answers.{likeness}
use Rattle.operations.specs.Routing.{routing_in, image_into}
use Rattle.operations.specs.Listing.{listing_in, listing_for, listed_for}

-- what W makes of the route of a code under a plan
abbrev pub replied : Desk → Plan → Word → Of.Route → Outcome Effect
replied d p w r = of_route p w r >>= λ reply. pass (d, reply)

abbrev pub route_reply : Desk → Plan → Word → Outcome Effect
route_reply d p w = replied d p w (routed p w)

-- and S of a comparison
abbrev pub compared : Desk → Of.Comparison → Outcome Effect
compared d x = of_comparison x >>= λ alike. pass (d, ok_number (bit alike))

module _ (d : Desk) (a : ℕ) where
  -- 9 for any of the three
  module _ {n : ℕ} {l : Option Letter} (e : plan_in d a ≡ refuse n l) where
    pub list_none : job d (L a) ≡ refuse n l
    unfolding job ◌>>=◌
    list_none = rw e refl

    pub compare_none : (b : ℕ) → job d (S a b) ≡ refuse n l
    unfolding job ◌>>=◌
    compare_none b = rw e refl

    pub route_none : (code : Bytes) → job d (W a code) ≡ refuse n l
    unfolding job ◌>>=◌
    route_none code = rw e refl

  -- the plan is listed, compared or routed by
  module _ (p : Plan) (e : plan_in d a ≡ pass p) where
    pub list_done : job d (L a) ≡ pass (d, lists a p)
    unfolding job ◌>>=◌
    list_done = rw e refl

    pub compare_second_none : {n : ℕ} {l : Option Letter} (b : ℕ) → plan_in d b ≡ refuse n l → job d (S a b) ≡ refuse n l
    unfolding job ◌>>=◌
    compare_second_none b f = rw (e, f) refl

    pub compare_done : (b : ℕ) (q : Plan) → plan_in d b ≡ pass q → job d (S a b) ≡ compared d (same p q)
    unfolding job ◌>>=◌
    compare_done b q f = rw (e, f) refl

    pub route_done : (code : Bytes) → job d (W a code) ≡ route_reply d p (word_of code)
    unfolding job ◌>>=◌
    route_done code = rw e refl

-- what a comparison tells
module _ (d : Desk) where
  pub likeness_refused : (x : Of.Comparison) (n : Refusal) → likeness x ≡ Err n → compared d x ≡ refuse (number_of n) none
  unfolding ◌>>=◌
  likeness_refused (Of.Alike b) n e = absurd (cc)
  likeness_refused (Of.NotCompared r) n e =
      let said : refusal r ≡ n = cc in
      ap (λ k. refuse k none) (sym (refusal_numbered r) ∙ ap number_of said)

  pub likeness_alike : (x : Of.Comparison) (b : Bool) → likeness x ≡ Ok b → compared d x ≡ pass (d, ok_number (bit b))
  unfolding ◌>>=◌
  likeness_alike (Of.Alike c) b e = let alike : c ≡ b = cc in ap (λ k. pass (d, ok_number (bit k))) alike
  likeness_alike (Of.NotCompared r) b e = absurd (cc)

-- a truth value as a number
pub bit_of : (b : Bool) → bool_byte b ≡ bit b
bit_of true = refl
bit_of false = refl

-- L's listing has room
module _ (a : ℕ) (s : is_slot a ≡ true) (p : Plan) (out : List ℕ) (room : length (listing a p) ≤ length out) where
  fits : leb (length (listing a p)) (length out) ≡ true
  fits = le-leb (length (listing a p)) (length out) room

  pub listing_told : listing_for a p (length out) ≡ Ok (length (listing a p))
  listing_told =
      ap (λ b. elim b [ true ↦ listing_in (listing a p) (length out) | false ↦ Err The.SlotOutside ]) s
      ∙ ap (λ b. elim b [ true ↦ Ok (length (listing a p)) | false ↦ Err The.BufferTooShort ]) fits

  pub listing_written : listed_for a p out ≡ written out 0 (listing a p)
  listing_written =
      ap (λ b. elim b [ true ↦ lent_into (listing a p) out | false ↦ out ]) s
      ∙ ap (λ b. elim b [ true ↦ written out 0 (listing a p) | false ↦ out ]) fits

-- A route that gave an image of so many bytes and a place, one of a code that is too short, and one that gave a refusal, with the buffer
-- after each.
pub record Sent (d : Desk) (p : Plan) (w : Word) (r : Of.Route) (part : List ℕ) (told : Image) : Type 0 where
  pub image : Word
  pub is_image : r ≡ Of.Image image
  pub size : told.length ≡ length (word_bytes image)
  pub place : told.place ≡ place_of (froms p.rows) w
  pub reply : replied d p w r ≡ pass (d, ok_image image told.place)
  pub buffer : image_into r part ≡ written part 0 (word_bytes image)

pub record Short (d : Desk) (p : Plan) (w : Word) (r : Of.Route) (part : List ℕ) : Type 0 where
  pub is_short : r ≡ Of.TooShort
  pub reply : replied d p w r ≡ pass (d, ok_block (placed_block p.rows w))
  pub buffer : image_into r part ≡ part

pub record Stopped (d : Desk) (p : Plan) (w : Word) (r : Of.Route) (part : List ℕ) (n : Refusal) : Type 0 where
  pub reply : replied d p w r ≡ refuse (number_of n) none
  pub buffer : image_into r part ≡ part

-- W's image has room
abbrev pub HasRoom : Of.Route → List ℕ → Type 0
HasRoom r part = (v : Word) → r ≡ Of.Image v → length (word_bytes v) ≤ length part

module _ (d : Desk) (p : Plan) (w : Word) (part : List ℕ) where
  abbrev place : ℕ
  place = place_of (froms p.rows) w

  -- what the route told
  abbrev pub told_by : Of.Route → Route
  told_by r = routing_in place r (length part)

  image_told : (v : Word) → HasRoom (Of.Image v) part → told_by (Of.Image v) ≡ Routes.Image (record { length = length (word_bytes v); place = place })
  image_told v fits =
      let size = length (word_bytes v) in
      ap (λ b. elim b [ true ↦ Routes.Image (record { length = size; place = place }) | false ↦ Routes.Refused The.BufferTooShort ]) (le-leb size (length part) (fits v refl))

  pub route_sent : (r : Of.Route) → HasRoom r part → (told : Image) → told_by r ≡ Routes.Image told → Sent d p w r part told
  unfolding ◌>>=◌
  route_sent (Of.Image v) fits told q =
      let size = length (word_bytes v) in
      let same : record { length = size; place = place } ≡ told = cc (image_told v fits) in
      let placed : told.place ≡ place = ap (λ (x : Image). x.place) (sym same) in
      record {
        image = v;
        is_image = refl;
        size = ap (λ (x : Image). x.length) (sym same);
        place = placed;
        reply = ap (λ x. pass (d, ok_image v x)) (sym placed);
        buffer = ap (λ b. elim b [ true ↦ written part 0 (word_bytes v) | false ↦ part ]) (le-leb size (length part) (fits v refl));
      }
  route_sent Of.TooShort fits told q = absurd (cc)
  route_sent (Of.NotRouted x) fits told q = absurd (cc)

  pub route_short : (r : Of.Route) → HasRoom r part → told_by r ≡ Routes.TooShort → Short d p w r part
  unfolding ◌>>=◌
  route_short (Of.Image v) fits q = absurd (cc (image_told v fits))
  route_short Of.TooShort fits q = record { is_short = refl; reply = refl; buffer = refl }
  route_short (Of.NotRouted x) fits q = absurd (cc)

  pub route_refused : (r : Of.Route) → HasRoom r part → (n : Refusal) → told_by r ≡ Routes.Refused n → Stopped d p w r part n
  unfolding ◌>>=◌
  route_refused (Of.Image v) fits n q = absurd (cc (image_told v fits))
  route_refused Of.TooShort fits n q = absurd (cc)
  route_refused (Of.NotRouted x) fits n q =
      let said : refusal x ≡ n = cc in
      record { reply = ap (λ k. refuse k none) (sym (refusal_numbered x) ∙ ap number_of said); buffer = refl }
