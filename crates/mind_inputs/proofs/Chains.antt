-- Inputs are read and judged one after another, and where the store tells what it holds the judgement is a function of the files.
use Rattle.std.proofs.Common.{◌≡◌, ℕ, zero, suc, ◌<◌, ◌≤◌, ◌⊎◌, inl, inr, ◌∙◌, Bool, true, false, cond, nat_lt, ◌&&◌, ◌+◌, List, [], ◌∷◌, ◌++◌, length, get_or, take, drop, ◌-◌, append_assoc, length-append, ap, sym, refl, subst, Option, Some, None, Result, Ok, Err, vec_len, arith}
use Rattle.std.specs.List.{AllByRecursion, list_all}
use Rattle.std.specs.Global.{Vec}
use Rattle.std.specs.FinMap as finite
use Rattle.std.proofs.lemmas.Bool.{le-ltb}
use Rattle.std.proofs.lemmas.List.{take_all}
use Rattle.mind_base.specs.Fit.{FitImages, FitsImage}
use Rattle.mind_base.specs.Store.{Files, held, Rises, ReadTells}
use Rattle.mind_base.specs.declared.events.Event.{Event}
use Rattle.mind_base.specs.declared.images.Image.{Image}
use Rattle.mind_base.specs.declared.plans.ImagePlan.{ImagePlan}
use Rattle.mind_base.specs.declared.plans.RackPlan.{RackPlan}
use Rattle.rack_gen.specs.Generator.{generated}
use Rattle.mind_inputs.specs.Inputs.{Seen, Absent, Long, Bytes, Ending, Missing, Refused, Accepted, Judged, ImagesSeen, seen_of, SeesFile, SeesImages, JudgesOne, JudgesImages, JudgesParts, JudgesWith, Judges, JudgesMade, rack_seen_judged, image_seen_judged, schedule_judged, judged_then, images_judged, parts_judged, events_then, made_judged, judge_with, judge, judge_made, is_built, IsBuilt}
use Rattle.mind_inputs.specs.Judged.{GivesEnding}
use Rattle.mind_inputs.specs.Loading.{MissTold, Stays, StopsBy, Brings}
use Rattle.mind_inputs.specs.Words.{Paths}
use Rattle.mind_inputs.specs.declared.stopped.Stopped.{Stopped}
use Rattle.mind_inputs.specs.declared.stopped.Stopped.TheVariants as stopped

-- ---- what is seen

fits-limit : (limit n : ℕ) (b : Bool) → nat_lt limit n ≡ b → n ≤ limit → b ≡ false
fits-limit limit n b e le = sym e ∙ le-ltb limit n le

reads-bytes : (holds : Option Files) (name : List ℕ) (limit : ℕ) (v : Vec ℕ) → ReadTells (held holds name) limit (Ok v) → length v.items ≤ limit
    → SeesFile holds name limit (Bytes v.items)
reads-bytes None name limit v told short = tt
reads-bytes (Some files) name limit v told short = ap (λ o. seen_of o limit) told
    ∙ ap (λ b. cond b Long (Bytes v.items)) (fits-limit limit (length v.items) _ refl short)

-- the same by a slice of those bytes
pub reads-slice : (holds : Option Files) (name : List ℕ) (limit : ℕ) (v : Vec ℕ) (slice : List ℕ) → slice ≡ v.items → ReadTells (held holds name) limit (Ok v) → vec_len v ≤ limit
    → SeesFile holds name limit (Bytes slice)
reads-slice holds name limit v slice same told short =
    let P : List ℕ → Type 0 = λ bytes. SeesFile holds name limit (Bytes bytes) in subst P (sym same) (reads-bytes holds name limit v told (subst (λ n. n ≤ limit) v.ok.0 short))

-- the same under another spelling of the name
pub reads-as : (holds : Option Files) (name as_name : List ℕ) (limit : ℕ) (seen : Seen) → name ≡ as_name → SeesFile holds name limit seen → SeesFile holds as_name limit seen
reads-as holds name as_name limit seen same reads = let P : List ℕ → Type 0 = λ n. SeesFile holds n limit seen in subst P same reads

-- ---- one input

-- bytes that were read are judged as the code answers
pub brings-judged : {X : Type 0} (holds : Option Files) (name : List ℕ) (limit f f' m m' : ℕ) (judged : Seen → Result X Ending) (bytes : List ℕ) (result : Result X Stopped)
    → SeesFile holds name limit (Bytes bytes) → GivesEnding result (judged (Bytes bytes)) → Stays f f' m m' → Brings holds (JudgesOne holds name limit judged) f f' m m' result
brings-judged holds name limit f f' m m' judged bytes (Ok x) reads gives stays = ((Bytes bytes, reads, gives), stays)
brings-judged holds name limit f f' m m' judged bytes (Err (stopped.Refused refusal)) reads gives stays = ((Bytes bytes, reads, gives), stays)
brings-judged holds name limit f f' m m' judged bytes (Err stopped.ReadFault) reads gives stays = absurd gives
brings-judged holds name limit f f' m m' judged bytes (Err stopped.NoMemory) reads gives stays = stays

-- ---- one part behind another

-- a count that rose from a greater number rose from a smaller one, and to a greater one
rises-from : (f f1 f2 f' : ℕ) → f ≤ f1 → f2 ≤ f' → Rises f1 f2 → Rises f f'
rises-from f f1 f2 f' le le' rises = omega (arith, rises)

either-on : (f f1 f2 f' m m1 m2 m' : ℕ) → f ≤ f1 → f2 ≤ f' → m ≤ m1 → m2 ≤ m' → Rises f1 f2 ⊎ Rises m1 m2 → Rises f f' ⊎ Rises m m'
either-on f f1 f2 f' m m1 m2 m' a b c d (inl rises) = inl (rises-from f f1 f2 f' a b rises)
either-on f f1 f2 f' m m1 m2 m' a b c d (inr rises) = inr (rises-from m m1 m2 m' c d rises)

miss-on : (holds : Option Files) (P Q : Type 0) (f f1 f2 f' : ℕ) → f ≤ f1 → f2 ≤ f' → (P → Q) → MissTold holds P f1 f2 → MissTold holds Q f f'
miss-on None P Q f f1 f2 f' a b on told = tt
miss-on (Some files) P Q f f1 f2 f' a b on (inl rises) = inl (rises-from f f1 f2 f' a b rises)
miss-on (Some files) P Q f f1 f2 f' a b on (inr missing) = inr (on missing)

-- what stops a part stops the whole
pub stops-on : (holds : Option Files) (P Q : Ending → Type 0) (f f1 f2 m m1 m2 : ℕ) (why : Stopped) → Stays f f1 m m1 → ((ending : Ending) → P ending → Q ending)
    → StopsBy holds P f1 f2 m1 m2 why → StopsBy holds Q f f2 m m2 why
stops-on holds P Q f f1 f2 m m1 m2 (stopped.Refused refusal) (a, b) on (stops, (c, d)) = (on (Refused refusal) stops, (c ∙ a, d ∙ b))
stops-on holds P Q f f1 f2 m m1 m2 stopped.ReadFault (a, b) on (rises, told) =
    let le : f ≤ f1 = omega (arith, a) in
    let le' : m ≤ m1 = omega (arith, b) in
    (either-on f f1 f2 f2 m m1 m2 m2 le (omega arith) le' (omega arith) rises, miss-on holds (P Missing) (Q Missing) f f1 f2 f2 le (omega arith) (on Missing) told)
stops-on holds P Q f f1 f2 m m1 m2 stopped.NoMemory (a, b) on (c, d) = (c ∙ a, d ∙ b)

-- counts that stand still twice
pub stays-on : (f f1 f2 m m1 m2 : ℕ) → Stays f f1 m m1 → Stays f1 f2 m1 m2 → Stays f f2 m m2
stays-on f f1 f2 m m1 m2 (a, b) (c, d) = (c ∙ a, d ∙ b)

-- the same where the store of that part held the same
pub stops-at : (holds mid : Option Files) (P : Option Files → Ending → Type 0) (Q : Ending → Type 0) (f f1 f2 m m1 m2 : ℕ) (why : Stopped) → mid ≡ holds → Stays f f1 m m1
    → ((ending : Ending) → P holds ending → Q ending) → StopsBy mid (P mid) f1 f2 m1 m2 why → StopsBy holds Q f f2 m m2 why
stops-at holds mid P Q f f1 f2 m m1 m2 why same stays on stops =
    let R : Option Files → Type 0 = λ h. StopsBy h (P h) f1 f2 m1 m2 why in
    stops-on holds (P holds) Q f f1 f2 m m1 m2 why stays on (subst R same stops)

-- the same of one store and the same counts
pub stops-so : (holds : Option Files) (P Q : Ending → Type 0) (f f' m m' : ℕ) (why : Stopped) → ((ending : Ending) → P ending → Q ending)
    → StopsBy holds P f f' m m' why → StopsBy holds Q f f' m m' why
stops-so holds P Q f f' m m' why on stops = stops-on holds P Q f f f' m m m' why (refl, refl) on stops

-- ---- what may be seen of an input that is not judged

abbrev any-seen : Option Files → List ℕ → ℕ → Seen
any-seen None name limit = Absent
any-seen (Some files) name limit = seen_of (finite.get files name) limit

sees-any : (h : Option Files) (name : List ℕ) (limit : ℕ) → SeesFile h name limit (any-seen h name limit)
sees-any None name limit = tt
sees-any (Some files) name limit = refl

abbrev any-images : Option Files → ImagesSeen
any-images h = λ n name. any-seen h name 65536

-- ---- one image behind another

abbrev seen-first : (List ℕ → Seen) → ImagesSeen → ImagesSeen
seen-first first rest zero = first
seen-first first rest (suc n) = rest n

sees-first : (h : Option Files) (first : List ℕ → Seen) (rest : ImagesSeen) → ((name : List ℕ) → SeesFile h name 65536 (first name)) → SeesImages h rest
    → (n : ℕ) (name : List ℕ) → SeesFile h name 65536 (seen-first first rest n name)
sees-first h first rest one more zero name = one name
sees-first h first rest one more (suc n) name = more n name

first-image : (h : Option Files) (accepted : List Image) (plan : ImagePlan) (plans : List ImagePlan) (r : Result Image Ending) (images : ImagesSeen)
    → JudgesOne h plan.name 65536 (image_seen_judged (length accepted) plan) r → SeesImages h images
    → JudgesImages h accepted (plan ∷ plans) (judged_then r (λ image. images_judged images (accepted ++ image ∷ []) plans))
first-image None accepted plan plans r images (seen, sees, is) see =
    (seen-first (λ name. seen) images, (λ n name. tt), ap (λ x. judged_then x (λ image. images_judged images (accepted ++ image ∷ []) plans)) is)
first-image (Some files) accepted plan plans r images (seen, sees, is) see = (
  seen-first (λ name. seen_of (finite.get files name) 65536) images,
  sees-first (Some files) (λ name. seen_of (finite.get files name) 65536) images (λ name. refl) see,
  ap (λ x. judged_then x (λ image. images_judged images (accepted ++ image ∷ []) plans)) (ap (image_seen_judged (length accepted) plan) sees ∙ is),
)

-- an image that is accepted, and those behind it
pub next-image : (h : Option Files) (accepted : List Image) (plan : ImagePlan) (plans : List ImagePlan) (image : Image)
    → JudgesOne h plan.name 65536 (image_seen_judged (length accepted) plan) (Ok image)
    → (answer : Result (List Image) Ending) → JudgesImages h (accepted ++ image ∷ []) plans answer → JudgesImages h accepted (plan ∷ plans) answer
next-image h accepted plan plans image one answer (images, see, is) =
    let P : Result (List Image) Ending → Type 0 = λ r. JudgesImages h accepted (plan ∷ plans) r in
    subst P is (first-image h accepted plan plans (Ok image) images one see)

-- an image that ends the call
pub last-image : (h : Option Files) (accepted : List Image) (plan : ImagePlan) (plans : List ImagePlan) (ending : Ending)
    → JudgesOne h plan.name 65536 (image_seen_judged (length accepted) plan) (Err ending) → JudgesImages h accepted (plan ∷ plans) (Err ending)
last-image h accepted plan plans ending one = first-image h accepted plan plans (Err ending) (any-images h) one (λ n name. sees-any h name 65536)

-- ---- where the store tells what it holds, the judgement is a function of the files

pub one-is : {X : Type 0} (files : Files) (name : List ℕ) (limit : ℕ) (judged : Seen → Result X Ending) (answer : Result X Ending)
    → JudgesOne (Some files) name limit judged answer → answer ≡ judged (seen_of (finite.get files name) limit)
one-is files name limit judged answer (seen, reads, is) = sym is ∙ ap judged (sym reads)

with-is : (files : Files) (rack : List ℕ) (events : RackPlan → Result (List Event) Ending) (j : Judged) → JudgesWith (Some files) rack events j → j ≡ judge_with files rack events
with-is files rack events j (parts, (seen, sees, images, see, is), ends) =
    let shown : images ≡ (λ n name. seen_of (finite.get files name) 65536) = λ i n name. sym (see n name) i in
    sym ends ∙ ap (events_then events) (sym is ∙ ap (λ s. parts_judged s images) (sym sees)
    ∙ ap (parts_judged (seen_of (finite.get files rack) 65536)) shown)

pub judges-judge : (files : Files) (paths : Paths) (j : Judged) → Judges (Some files) paths j → j ≡ judge files paths
judges-judge files paths j (schedule, sees, judges) =
    with-is files paths.rack (λ plan. schedule_judged plan schedule) j judges
    ∙ ap (λ s. judge_with files paths.rack (λ plan. schedule_judged plan s)) (sym sees)

pub judges-made : (files : Files) (rack : List ℕ) (count seed : ℕ) (j : Judged) → JudgesMade (Some files) rack count seed j → j ≡ judge_made files rack count seed
judges-made files rack count seed j judges = with-is files rack (made_judged count seed) j judges

-- and the files are judged so
with-by : (files : Files) (rack : List ℕ) (events : RackPlan → Result (List Event) Ending) (j : Judged) → j ≡ judge_with files rack events → JudgesWith (Some files) rack events j
with-by files rack events j is = (
  parts_judged (seen_of (finite.get files rack) 65536) (λ n name. seen_of (finite.get files name) 65536),
  (seen_of (finite.get files rack) 65536, refl, (λ n name. seen_of (finite.get files name) 65536), (λ n name. refl), refl),
  sym is,
)

pub judge-judges : (files : Files) (paths : Paths) (j : Judged) → j ≡ judge files paths → Judges (Some files) paths j
judge-judges files paths j is =
    (seen_of (finite.get files paths.schedule) 4194304, refl, with-by files paths.rack (λ plan. schedule_judged plan (seen_of (finite.get files paths.schedule) 4194304)) j is)

pub made-judges : (files : Files) (rack : List ℕ) (count seed : ℕ) (j : Judged) → j ≡ judge_made files rack count seed → JudgesMade (Some files) rack count seed j
made-judges files rack count seed j is = with-by files rack (made_judged count seed) j is

-- ---- what is accepted

all-both : {X : Type 0} (test : X → Bool) (x : X) (b : Bool) (rest : Bool) → (b && rest) ≡ true → (b ≡ true) × (rest ≡ true)
all-both test x true rest all = (refl, all)
all-both test x false rest all = absurd (cc)

all-by : {X : Type 0} (test : X → Bool) (xs : List X) → list_all test xs ≡ true → AllByRecursion (λ x. test x ≡ true) xs
all-by test [] all = tt
all-by test (x ∷ xs) all = let (here, rest) = all-both test x (test x) (list_all test xs) all in (here, all-by test xs rest)

-- events that the code found to be built
pub built-of : (xs ys zs : List Event) (b : Bool) → xs ≡ zs → ys ≡ zs → b ≡ list_all is_built ys → b ≡ true → AllByRecursion IsBuilt xs
built-of xs ys zs b whole part found all = let P : List Event → Type 0 = λ es. AllByRecursion IsBuilt es in subst P (part ∙ sym whole) (all-by is_built ys (sym found ∙ all))

pub all-same : {X : Type 0} (P : X → Type 0) (xs ys : List X) → xs ≡ ys → AllByRecursion P ys → AllByRecursion P xs
all-same P xs ys same all = subst (AllByRecursion P) (sym same) all

nothing-on : (images : List Image) → images ++ [] ≡ images
nothing-on [] = refl
nothing-on (i ∷ images) = ap (λ is. i ∷ is) (nothing-on images)

-- the images of all plans but those that are left are read
pub record AreRead (first now : Option Files) (f f1 m m1 : ℕ) (plans left : List ImagePlan) (images : List Image) : Type 0 where
  pub keeps : now ≡ first
  pub stays : Stays f f1 m m1
  pub count : length images + length left ≡ length plans
  pub goes_on : (answer : Result (List Image) Ending) → JudgesImages first images left answer → JudgesImages first [] plans answer
  pub fit : (rest : List Image) → FitImages left rest → FitImages plans (images ++ rest)

pub left-front : (left : List ImagePlan) (plan : ImagePlan) → 1 ≤ length left → plan ≡ get_or left 0 plan → left ≡ plan ∷ take (length left - 1) (drop 1 left)
left-front [] plan some is = absurd (omega (arith, some))
left-front (p ∷ ps) plan some is = λ i. sym is i ∷ sym (take_all (length (p ∷ ps) - 1) ps (omega arith)) i

-- the plan that is read next is the first of those that are left
as-next : (h : Option Files) (plan : ImagePlan) (number : ℕ) (images : List Image) (r : Result Image Ending) → number ≡ length images
    → JudgesOne h plan.name 65536 (image_seen_judged number plan) r → JudgesOne h plan.name 65536 (image_seen_judged (length images) plan) r
as-next h plan number images r is one = let P : ℕ → Type 0 = λ n. JudgesOne h plan.name 65536 (image_seen_judged n plan) r in subst P is one

goes-next : (h h1 : Option Files) (f f1 m m1 : ℕ) (plans left rest : List ImagePlan) (plan : ImagePlan) (images : List Image) (answer : Result (List Image) Ending)
    → AreRead h h1 f f1 m m1 plans left images → left ≡ plan ∷ rest → JudgesImages h images (plan ∷ rest) answer → JudgesImages h [] plans answer
goes-next h h1 f f1 m m1 plans left rest plan images answer so_far is judges =
    let P : List ImagePlan → Type 0 = λ l. JudgesImages h images l answer in so_far.goes_on answer (subst P (sym is) judges)

pub one-more : (h h1 h2 : Option Files) (f f1 f2 m m1 m2 number : ℕ) (plans left rest : List ImagePlan) (plan : ImagePlan) (images new : List Image) (image : Image)
    → AreRead h h1 f f1 m m1 plans left images → left ≡ plan ∷ rest → number ≡ length images → h2 ≡ h1
    → JudgesOne h1 plan.name 65536 (image_seen_judged number plan) (Ok image) × Stays f1 f2 m1 m2 → FitsImage plan image → new ≡ images ++ image ∷ [] → AreRead h h2 f f2 m m2 plans rest new
one-more h h1 h2 f f1 f2 m m1 m2 number plans left rest plan images new image so_far is at keeps (one, stays) fits more =
    let O : Option Files → Type 0 = λ o. JudgesOne o plan.name 65536 (image_seen_judged number plan) (Ok image) in
    let here : JudgesOne h plan.name 65536 (image_seen_judged (length images) plan) (Ok image) = as-next h plan number images (Ok image) at (subst O so_far.keeps one) in
    let L : List ImagePlan → Type 0 = λ l. (behind : List Image) → FitImages l behind → FitImages plans (images ++ behind) in
    let fit : (behind : List Image) → FitImages (plan ∷ rest) behind → FitImages plans (images ++ behind) = subst L is so_far.fit in
    let N : List Image → Type 0 = λ all. AreRead h h2 f f2 m m2 plans rest all in
    subst N (sym more) (record {
      keeps = keeps ∙ so_far.keeps;
      stays = stays-on f f1 f2 m m1 m2 so_far.stays stays;
      count = omega (arith, so_far.count, ap length is, length-append images (image ∷ []));
      goes_on = λ answer judges. goes-next h h1 f f1 m m1 plans left rest plan images answer so_far is (next-image h images plan rest image here answer judges);
      fit = λ behind all. let F : List Image → Type 0 = λ xs. FitImages plans xs in subst F (sym (append_assoc images (image ∷ []) behind)) (fit (image ∷ behind) (fits, all));
    })

pub image-stops : (h h1 : Option Files) (f f1 f2 m m1 m2 number : ℕ) (plans left rest : List ImagePlan) (plan : ImagePlan) (images : List Image) (why : Stopped)
    → AreRead h h1 f f1 m m1 plans left images → left ≡ plan ∷ rest → number ≡ length images
    → StopsBy h1 (λ ending. JudgesOne h1 plan.name 65536 (image_seen_judged number plan) (Err ending)) f1 f2 m1 m2 why → StopsBy h (λ ending. JudgesImages h [] plans (Err ending)) f f2 m m2 why
image-stops h h1 f f1 f2 m m1 m2 number plans left rest plan images why so_far is at stops =
    stops-at h h1 (λ o ending. JudgesOne o plan.name 65536 (image_seen_judged number plan) (Err ending)) (λ ending. JudgesImages h [] plans (Err ending)) f f1 f2 m m1 m2 why
    so_far.keeps so_far.stays
    (λ ending one. goes-next h h1 f f1 m m1 plans left rest plan images (Err ending) so_far is (last-image h images plan rest ending (as-next h plan number images (Err ending) at one))) stops

pub read-all : (h h1 : Option Files) (f f1 m m1 : ℕ) (plans left : List ImagePlan) (images : List Image) → AreRead h h1 f f1 m m1 plans left images → left ≡ []
    → (JudgesImages h [] plans (Ok images) × Stays f f1 m m1) × FitImages plans images
read-all h h1 f f1 m m1 plans left images so_far none =
    let Q : List ImagePlan → Type 0 = λ l. AreRead h h1 f f1 m m1 plans l images in
    let all : AreRead h h1 f f1 m m1 plans [] images = subst Q none so_far in
    let F : List Image → Type 0 = λ is. FitImages plans is in
    ((all.goes_on (Ok images) (any-images h, (λ n name. sees-any h name 65536), refl), all.stays), subst F (nothing-on images) (all.fit [] tt))

-- ---- the whole

images-told : (h h1 : Option Files) (plans all : List ImagePlan) (answer : Result (List Image) Ending) → h1 ≡ h → plans ≡ all → JudgesImages h1 [] plans answer → JudgesImages h [] all answer
images-told h h1 plans all answer same is judges =
    let P : Option Files → Type 0 = λ o. JudgesImages o [] plans answer in
    let Q : List ImagePlan → Type 0 = λ ps. JudgesImages h [] ps answer in
    subst Q is (subst P same judges)

rack-ends : (h : Option Files) (rack : List ℕ) (ending : Ending) → JudgesOne h rack 65536 rack_seen_judged (Err ending) → JudgesParts h rack (Err ending)
rack-ends h rack ending (seen, sees, is) = (
  seen,
  sees,
  any-images h,
  (λ n name. sees-any h name 65536),
  ap (λ r. judged_then r (λ plan. judged_then (images_judged (any-images h) [] plan.images) (λ accepted. Ok (plan, accepted)))) is,
)

images-end : (h : Option Files) (rack : List ℕ) (plan : RackPlan) (answer : Result (List Image) Ending) → JudgesOne h rack 65536 rack_seen_judged (Ok plan)
    → JudgesImages h [] plan.images answer → JudgesParts h rack (judged_then answer (λ accepted. Ok (plan, accepted)))
images-end h rack plan answer (seen, sees, is) (images, see, all) = (
  seen,
  sees,
  images,
  see,
  ap (λ r. judged_then r (λ p. judged_then (images_judged images [] p.images) (λ accepted. Ok (p, accepted)))) is
      ∙ ap (λ r. judged_then r (λ accepted. Ok (plan, accepted))) all,
)

pub rack-stops : (h : Option Files) (rack : List ℕ) (f f1 m m1 : ℕ) (why : Stopped)
    → StopsBy h (λ ending. JudgesOne h rack 65536 rack_seen_judged (Err ending)) f f1 m m1 why → StopsBy h (λ ending. JudgesParts h rack (Err ending)) f f1 m m1 why
rack-stops h rack f f1 m m1 why stops =
    stops-so h (λ ending. JudgesOne h rack 65536 rack_seen_judged (Err ending)) (λ ending. JudgesParts h rack (Err ending)) f f1 m m1 why (λ ending one. rack-ends h rack ending one) stops

pub images-stop : (h h1 : Option Files) (rack : List ℕ) (plan : RackPlan) (plans : List ImagePlan) (f f1 f2 m m1 m2 : ℕ) (why : Stopped)
    → plans ≡ plan.images → h1 ≡ h → JudgesOne h rack 65536 rack_seen_judged (Ok plan) × Stays f f1 m m1
    → StopsBy h1 (λ ending. JudgesImages h1 [] plans (Err ending)) f1 f2 m1 m2 why → StopsBy h (λ ending. JudgesParts h rack (Err ending)) f f2 m m2 why
images-stop h h1 rack plan plans f f1 f2 m m1 m2 why is same (read, stays) stops =
    stops-at h h1 (λ o ending. JudgesImages o [] plans (Err ending)) (λ ending. JudgesParts h rack (Err ending)) f f1 f2 m m1 m2 why same stays
    (λ ending part. images-end h rack plan (Err ending) read (images-told h h plans plan.images (Err ending) refl is part)) stops

pub parts-read : (h h1 : Option Files) (rack : List ℕ) (plan : RackPlan) (plans : List ImagePlan) (f f1 f2 m m1 m2 : ℕ) (images : List Image) → plans ≡ plan.images → h1 ≡ h
    → JudgesOne h rack 65536 rack_seen_judged (Ok plan) × Stays f f1 m m1 → JudgesImages h1 [] plans (Ok images) × Stays f1 f2 m1 m2 → JudgesParts h rack (Ok (plan, images)) × Stays f f2 m m2
parts-read h h1 rack plan plans f f1 f2 m m1 m2 images is same (read, one) (all, two) =
    (images-end h rack plan (Ok images) read (images-told h h1 plans plan.images (Ok images) same is all), stays-on f f1 f2 m m1 m2 one two)

-- the events of a rack that is read, with its images
events-end : (h : Option Files) (rack : List ℕ) (events : RackPlan → Result (List Event) Ending) (parts : RackPlan × List Image) (answer : Result (List Event) Ending)
    → JudgesParts h rack (Ok parts) → events parts.0 ≡ answer
    → JudgesWith h rack events (judged_then answer (λ accepted. Ok (record { plan = parts.0; images = parts.1; events = accepted })))
events-end h rack events parts answer read is = (Ok parts, read, ap (λ r. judged_then r (λ accepted. Ok (record { plan = parts.0; images = parts.1; events = accepted }))) is)

schedule-ends : (h h1 : Option Files) (p : Paths) (parts : RackPlan × List Image) (answer : Result (List Event) Ending) → h1 ≡ h
    → JudgesParts h p.rack (Ok parts) → JudgesOne h1 p.schedule 4194304 (schedule_judged parts.0) answer
    → Judges h p (judged_then answer (λ accepted. Ok (record { plan = parts.0; images = parts.1; events = accepted })))
schedule-ends h h1 p parts answer same read (seen, sees, is) =
    let P : Option Files → Type 0 = λ o. SeesFile o p.schedule 4194304 seen in
    (seen, subst P same sees, events-end h p.rack (λ plan. schedule_judged plan seen) parts answer read is)

pub made-stops : (h : Option Files) (rack : List ℕ) (count seed : ℕ) (f f1 m m1 : ℕ) (why : Stopped)
    → StopsBy h (λ ending. JudgesParts h rack (Err ending)) f f1 m m1 why → StopsBy h (λ ending. JudgesMade h rack count seed (Err ending)) f f1 m m1 why
made-stops h rack count seed f f1 m m1 why stops =
    stops-so h (λ ending. JudgesParts h rack (Err ending)) (λ ending. JudgesMade h rack count seed (Err ending)) f f1 m m1 why (λ ending read. (Err ending, read, refl)) stops

pub parts-stop : (h : Option Files) (p : Paths) (f f1 m m1 : ℕ) (why : Stopped)
    → StopsBy h (λ ending. JudgesParts h p.rack (Err ending)) f f1 m m1 why → StopsBy h (λ ending. Judges h p (Err ending)) f f1 m m1 why
parts-stop h p f f1 m m1 why stops =
    stops-so h (λ ending. JudgesParts h p.rack (Err ending)) (λ ending. Judges h p (Err ending)) f f1 m m1 why
    (λ ending read. (any-seen h p.schedule 4194304, sees-any h p.schedule 4194304, (Err ending, read, refl))) stops

pub schedule-stops : (h h1 : Option Files) (p : Paths) (parts : RackPlan × List Image) (f f1 f2 m m1 m2 : ℕ) (why : Stopped) → h1 ≡ h → JudgesParts h p.rack (Ok parts) × Stays f f1 m m1
    → StopsBy h1 (λ ending. JudgesOne h1 p.schedule 4194304 (schedule_judged parts.0) (Err ending)) f1 f2 m1 m2 why → StopsBy h (λ ending. Judges h p (Err ending)) f f2 m m2 why
schedule-stops h h1 p parts f f1 f2 m m1 m2 why same (read, stays) stops =
    stops-at h h1 (λ o ending. JudgesOne o p.schedule 4194304 (schedule_judged parts.0) (Err ending)) (λ ending. Judges h p (Err ending)) f f1 f2 m m1 m2 why same stays
    (λ ending one. schedule-ends h h p parts (Err ending) refl read one) stops

pub all-loaded : (h h1 : Option Files) (p : Paths) (parts : RackPlan × List Image) (events : List Event) (f f1 f2 m m1 m2 : ℕ) (loaded : Accepted) → h1 ≡ h → JudgesParts h p.rack (Ok parts) × Stays f f1 m m1
    → JudgesOne h1 p.schedule 4194304 (schedule_judged parts.0) (Ok events) × Stays f1 f2 m1 m2 → loaded ≡ record { plan = parts.0; images = parts.1; events = events }
    → Judges h p (Ok loaded) × Stays f f2 m m2
all-loaded h h1 p parts events f f1 f2 m m1 m2 loaded same (read, first) (one, second) is =
    let P : Accepted → Type 0 = λ x. Judges h p (Ok x) in (subst P (sym is) (schedule-ends h h1 p parts (Ok events) same read one), stays-on f f1 f2 m m1 m2 first second)

pub all-made : (h : Option Files) (rack : List ℕ) (count seed : ℕ) (parts : RackPlan × List Image) (events : List Event) (f f' m m' : ℕ) (loaded : Accepted) → JudgesParts h rack (Ok parts) × Stays f f' m m'
    → events ≡ generated parts.0 count seed → loaded ≡ record { plan = parts.0; images = parts.1; events = events } → JudgesMade h rack count seed (Ok loaded) × Stays f f' m m'
all-made h rack count seed parts events f f' m m' loaded (read, stays) made is =
    let P : Accepted → Type 0 = λ x. JudgesMade h rack count seed (Ok x) in
    (subst P (sym is) (events-end h rack (made_judged count seed) parts (Ok events) read (ap (λ es. Ok es) (sym made))), stays)

pub none-left : (plans : List ImagePlan) → length plans < 1 → plans ≡ []
none-left [] few = refl
none-left (plan ∷ plans) few = absurd (omega (arith, few))
