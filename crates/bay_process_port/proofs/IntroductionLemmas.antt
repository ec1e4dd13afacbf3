-- The first line of a supervised process, and what it is as a line of a trace.
use Rattle.std.proofs.Common.{◌≡◌, ℕ, true, List, [], ◌∷◌, ◌++◌, codes, Option, None, Some, option_and_then, refl, ap, ◌∙◌, append_assoc}
use Rattle.std.proofs.lemmas.List.Splits.{slice_split-cons_no, slice_split-cons_yes}
use Rattle.std.specs.List.{onto_first, slice_split}
use Rattle.std.specs.Str.{all_ascii_digits}
use Rattle.bay_base.specs.Decimals.{read_number}
use Rattle.bay_base.specs.Options.{◌>>=◌}
use Rattle.bay_device.specs.Device.{State}
use Rattle.bay_trace.specs.Trace.{event_of, is_space, name_of, named_event_of}
use Rattle.bay_server_turn.specs.Served.{event_in_line}
use Rattle.bay_server_turn.specs.Supervised.{text_without_end}
use Rattle.bay_server_turn.proofs.SupervisedLemmas.{number-digits, stripped-is, unread}
use Rattle.bay_process_port.specs.Introduction.{introduction_moment}

bay-event : (words : List (List ℕ)) → event_of (codes "bay" ∷ words) ≡ None
bay-event [] = refl
bay-event (message ∷ words) = by-name (name_of message)
  where
    by-name : (o : Option (List ℕ))
        → option_and_then (λ name. named_event_of (codes "bay") name words) o ≡ None
    by-name None = refl
    by-name (Some name) = refl

bay-words : (rest : List ℕ)
    → slice_split is_space (codes "bay " ++ rest) ≡ codes "bay" ∷ slice_split is_space rest
bay-words rest =
    slice_split-cons_no is_space 98 (97 ∷ 121 ∷ 32 ∷ rest) refl
    ∙ ap (onto_first 98) (slice_split-cons_no is_space 97 (121 ∷ 32 ∷ rest) refl
    ∙ ap (onto_first 97) (slice_split-cons_no is_space 121 (32 ∷ rest) refl
    ∙ ap (onto_first 121) (slice_split-cons_yes is_space 32 rest refl)))

bay-untold : (s : State) (digits rest : List ℕ) → all_ascii_digits digits ≡ true
    → event_in_line s (digits ++ codes " bay " ++ rest) ≡ None
bay-untold s digits rest number =
    ap (event_in_line s) (append_assoc digits (codes " bay ") rest)
    ∙ unread s digits (codes "bay " ++ rest) (codes "bay") (slice_split is_space rest) number
    (bay-words rest) (bay-event (slice_split is_space rest))

-- the parts of the first line
pub record Introduces (key domain revision line : List ℕ) (moment : ℕ) : Type 0 where
  pub digits : List ℕ
  pub number : read_number digits ≡ Some moment
  pub is : line
      ≡ digits ++ codes " bay " ++ key ++ codes " " ++ domain ++ codes " " ++ revision

pub introduced-is : (key domain revision line : List ℕ) (moment : ℕ)
    → introduction_moment key domain revision line ≡ Some moment
    → Introduces key domain revision line moment
introduced-is key domain revision line moment e =
    by1 (text_without_end revision line) refl e
  where
    by6 : (a b c d f g : List ℕ) (o : Option ℕ)
        → line ≡ g ++ codes " bay " ++ key ++ codes " " ++ domain ++ codes " " ++ revision
        → read_number g ≡ o → o ≡ Some moment → Introduces key domain revision line moment
    by6 a b c d f g o is number some = record { digits = g; number = number ∙ some; is = is }

    by5 : (a b c d f : List ℕ) (o : Option (List ℕ))
        → line ≡ f ++ key ++ codes " " ++ domain ++ codes " " ++ revision
        → text_without_end (codes " bay ") f ≡ o → (o >>= read_number) ≡ Some moment
        → Introduces key domain revision line moment
    by5 a b c d f None is cut some = absurd cc
    by5 a b c d f (Some g) is cut some =
        by6 a b c d f g (read_number g)
        (is ∙ ap (λ l. l ++ key ++ codes " " ++ domain ++ codes " " ++ revision)
        (stripped-is (codes " bay ") f g cut)) refl some

    by4 : (a b c d : List ℕ) (o : Option (List ℕ))
        → line ≡ d ++ codes " " ++ domain ++ codes " " ++ revision
        → text_without_end key d ≡ o
        → (o >>= text_without_end (codes " bay ") >>= read_number) ≡ Some moment
        → Introduces key domain revision line moment
    by4 a b c d None is cut some = absurd cc
    by4 a b c d (Some f) is cut some =
        by5 a b c d f (text_without_end (codes " bay ") f)
        (is ∙ ap (λ l. l ++ codes " " ++ domain ++ codes " " ++ revision)
        (stripped-is key d f cut)) refl some

    by3 : (a b c : List ℕ) (o : Option (List ℕ))
        → line ≡ c ++ domain ++ codes " " ++ revision
        → text_without_end (codes " ") c ≡ o
        → (o >>= text_without_end key >>= text_without_end (codes " bay ") >>= read_number)
        ≡ Some moment
        → Introduces key domain revision line moment
    by3 a b c None is cut some = absurd cc
    by3 a b c (Some d) is cut some =
        by4 a b c d (text_without_end key d)
        (is ∙ ap (λ l. l ++ domain ++ codes " " ++ revision)
        (stripped-is (codes " ") c d cut)) refl some

    by2 : (a b : List ℕ) (o : Option (List ℕ))
        → line ≡ b ++ codes " " ++ revision
        → text_without_end domain b ≡ o
        → (o >>= text_without_end (codes " ") >>= text_without_end key
        >>= text_without_end (codes " bay ")
        >>= read_number) ≡ Some moment
        → Introduces key domain revision line moment
    by2 a b None is cut some = absurd cc
    by2 a b (Some c) is cut some =
        by3 a b c (text_without_end (codes " ") c)
        (is ∙ ap (λ l. l ++ codes " " ++ revision) (stripped-is domain b c cut)) refl some

    by1b : (a : List ℕ) (o : Option (List ℕ)) → line ≡ a ++ revision
        → text_without_end (codes " ") a ≡ o
        → (o >>= text_without_end domain >>= text_without_end (codes " ") >>= text_without_end key
        >>= text_without_end (codes " bay ") >>= read_number) ≡ Some moment
        → Introduces key domain revision line moment
    by1b a None is cut some = absurd cc
    by1b a (Some b) is cut some =
        by2 a b (text_without_end domain b)
        (is ∙ ap (λ l. l ++ revision) (stripped-is (codes " ") a b cut)) refl some

    by1 : (o : Option (List ℕ)) → text_without_end revision line ≡ o
        → (o >>= text_without_end (codes " ") >>= text_without_end domain
        >>= text_without_end (codes " ")
        >>= text_without_end key >>= text_without_end (codes " bay ") >>= read_number) ≡ Some moment
        → Introduces key domain revision line moment
    by1 None cut some = absurd cc
    by1 (Some a) cut some =
        by1b a (text_without_end (codes " ") a) (stripped-is revision line a cut) refl some

-- it tells of no event
pub introduced-untold : (s : State) (key domain revision line : List ℕ) (moment : ℕ)
    → introduction_moment key domain revision line ≡ Some moment → event_in_line s line ≡ None
introduced-untold s key domain revision line moment e =
    let i = introduced-is key domain revision line moment e in
    let tail = key ++ codes " " ++ domain ++ codes " " ++ revision in
    let is : line ≡ i.digits ++ codes " bay " ++ tail = i.is ∙ simp append_assoc in
    ap (event_in_line s) is ∙ bay-untold s i.digits tail (number-digits i.digits moment i.number)
