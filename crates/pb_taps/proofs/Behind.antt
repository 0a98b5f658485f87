-- The part of a list behind a place, lent and given back.
use Rattle.std.proofs.Common.{◌≡◌, ◌∙◌, ap, sym, subst, arith, ℕ, ◌-◌, ◌≤◌, ◌++◌, List, length, map, length-append}
use Rattle.std.specs.Prelude.{take, drop, Result, Ok, Err, OnOk, OnErr, IfOk, IfErr, IsErr}
use Rattle.std.specs.Result.{IsErrAnd}
use Rattle.std.proofs.lemmas.List.{take_all, drop_all, take-map, drop-map, map-append, append-nil, length-drop, length-take-le}
use borrow.Rule.Slice.PartMut.{put_mid}

pub rest-of : {X : Type 0} (xs : List X) (over : ℕ) → take (length xs - over) (drop over xs) ≡ drop over xs
rest-of xs over = take_all (length xs - over) (drop over xs) (omega (arith, length-drop over xs))

given-back : {X : Type 0} (xs ys : List X) (over : ℕ) → put_mid over (length xs - over) xs ys ≡ take over xs ++ ys
given-back xs ys over =
    ap (λ zs. take over xs ++ (ys ++ zs)) (drop_all (length xs - over) (drop over xs) (omega (arith, length-drop over xs)))
    ∙ ap (λ zs. take over xs ++ zs) (append-nil ys)

pub back-as : {X Y : Type 0} (f : X → Y) (xs ys : List X) (over : ℕ) → map f (put_mid over (length xs - over) xs ys) ≡ take over (map f xs) ++ map f ys
back-as f xs ys over =
    ap (map f) (given-back xs ys over) ∙ map-append f (take over xs) ys ∙ ap (λ zs. zs ++ map f ys) (sym (take-map f over xs))

-- the part behind a place, seen through a function
pub rest-as : {X Y : Type 0} (f : X → Y) (xs : List X) (over : ℕ) → map f (take (length xs - over) (drop over xs)) ≡ drop over (map f xs)
rest-as f xs over = ap (map f) (rest-of xs over) ∙ sym (drop-map f over xs)

pub on-ok : {X F : Type 0} {P Q : Type 0} (r : Result X F) → (P → Q) → OnOk r P → OnOk r Q
on-ok (Ok x) f p = f p
on-ok (Err e) f p = tt

pub on-err : {X F : Type 0} {P Q : Type 0} (r : Result X F) → (P → Q) → OnErr r P → OnErr r Q
on-err (Ok x) f p = tt
on-err (Err e) f p = f p

pub if-ok : {X F : Type 0} {P Q : X → Type 0} (r : Result X F) → ((x : X) → P x → Q x) → IfOk r P → IfOk r Q
if-ok (Ok x) f p = f x p
if-ok (Err e) f p = tt

pub if-err : {X F : Type 0} {P Q : F → Type 0} (r : Result X F) → ((e : F) → P e → Q e) → IfErr r P → IfErr r Q
if-err (Ok x) f p = tt
if-err (Err e) f p = f e p

-- an error that is passed on
pub err-of : {X F : Type 0} (P : F → Type 0) (r : Result X F) (f : F) → IsErr r → IsErrAnd r (λ e. e ≡ f) → P f → IfErr r P
err-of P (Ok x) f err same p = tt
err-of P (Err e) f err same p = subst P (sym same) p

-- a vector that was lent as a slice has what the slice ends with
pub written-back : {X : Type 0} (n : ℕ) (xs ys : List X) → length xs ≡ n → length ys ≡ length xs → take n (ys ++ drop (length ys) xs) ≡ ys
written-back n xs ys size same =
    ap (λ zs. take n (ys ++ zs)) (drop_all (length ys) xs (omega (arith, same))) ∙ ap (take n) (append-nil ys) ∙ take_all n ys (omega (arith, size, same))

-- a vector of which the part behind a place was lent, and given back as long as it was
lent-own : {X Y : Type 0} (f : X → Y) (n over : ℕ) (xs ys : List X) → length xs ≡ n → over ≤ length xs → length ys ≡ length (take (length xs - over) (drop over xs))
    → map f (take n (put_mid over (length xs - over) xs ys ++ drop (length (put_mid over (length xs - over) xs ys)) xs)) ≡ take over (map f xs) ++ map f ys
lent-own f n over xs ys size some same =
    let back = given-back xs ys over in
    let long : length (take over xs ++ ys) ≡ length xs = omega (arith, length-append (take over xs) ys, length-take-le over xs some, same, ap length (rest-of xs over), length-drop over xs, some) in
    ap (λ zs. map f (take n (zs ++ drop (length zs) xs))) back
    ∙ ap (map f) (written-back n xs (take over xs ++ ys) size long)
    ∙ map-append f (take over xs) ys ∙ ap (λ zs. zs ++ map f ys) (sym (take-map f over xs))

pub lent-back : {X Y : Type 0} (f : X → Y) (n over : ℕ) (xs seen ys : List X) → seen ≡ xs → length xs ≡ n → over ≤ length xs
    → length ys ≡ length (take (length seen - over) (drop over seen))
    → map f (take n (put_mid over (length seen - over) seen ys ++ drop (length (put_mid over (length seen - over) seen ys)) xs)) ≡ take over (map f xs) ++ map f ys
lent-back f n over xs seen ys is size some =
    subst (λ zs. length ys ≡ length (take (length zs - over) (drop over zs))
    → map f (take n (put_mid over (length zs - over) zs ys ++ drop (length (put_mid over (length zs - over) zs ys)) xs)) ≡ take over (map f xs) ++ map f ys)
    (sym is) (lent-own f n over xs ys size some)
