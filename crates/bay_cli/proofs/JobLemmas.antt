-- Lemmas on what a command line asks for.
use Rattle.std.proofs.Common.{◌≡◌, ◌∙◌, ◌⊎◌, inl, inr, ℕ, ◌^◌, ◌<◌, ◌≤◌, Bool, true, false, subst, List, ◌∷◌, Option, None, Some, Result, Ok, Err, refl, ap, sym, arith, []}
use Rattle.std.specs.Result.{result_ok}
use Rattle.std.specs.Str.Parse.{IsNumeral, ParsesUnsigned, digits_value, without_leading_plus}
use Rattle.std.specs.declared.num.ParseIntError.{ParseIntError}
use Rattle.clap.proofs.ValueTestLemmas.{accepts-Accepts, Accepts-accepts}
use Rattle.clap.specs.ValueTests.{is_unsigned_in}
use Rattle.clap.specs.declared.builder.value_parser.ValueParser.TheVariants as vp
use Rattle.clap.specs.Kinds.{Kinds, HasKind, IsAmong}
use Rattle.clap.specs.Words.{App, HasMatchesOf, Row, Text, fault_of, is_simple, is_simple_and_free, kind_of, subcommand_of, subcommand_rows_of}
use Rattle.clap.specs.declared.parser.matches.ArgMatches.{ArgMatches}
use Rattle.clap.specs.declared.error.Error.{Error}
use Rattle.clap.specs.declared.error.kind.ErrorKind.TheVariants.{OutOfMemory}
use Rattle.clap.specs.declared.error.kind.ErrorKind.{ErrorKind}
use Rattle.bay_cli.specs.Jobs.{parsed_words, faultless, job_app, number_of}
use Rattle.bay_cli.specs.declared.parse.WordsFault.{WordsFault}
use Rattle.bay_cli.specs.declared.parse.WordsFault.TheVariants.{OutOfMemory as ran_out}

-- words with a fault ask for nothing
faultless-refused : (kinds : Kinds) (kind : ErrorKind) (read : Option (Text × List Row))
    → IsAmong kind kinds → faultless kinds read ≡ None
faultless-refused [] kind read h = absurd h
faultless-refused (first ∷ others) kind read h = refl

refused-by-kind : (words : List Text) (error : Error) (fault : WordsFault)
    → (kind_of error ≡ OutOfMemory → fault ≡ ran_out)
    → HasKind (fault_of job_app words) error → (fault ≡ ran_out) ⊎ (parsed_words words ≡ None)
refused-by-kind words error fault told (inl memory) = inl (told memory)
refused-by-kind words error fault told (inr among) =
    inr (faultless-refused (fault_of job_app words) (kind_of error) (subcommand_of job_app words)
    among)

is-job-app-free : is_simple_and_free job_app ≡ true
is-job-app-free = refl

is-job-app-simple : is_simple job_app ≡ true
is-job-app-simple = refl

-- what is told of words that `clap` refuses: want of memory, or that they ask for nothing
pub refused-words : (app : App) (words : List Text) (error : Error) (fault : WordsFault)
    → (kind_of error ≡ OutOfMemory → fault ≡ ran_out)
    → app ≡ job_app → (is_simple_and_free app ≡ true → HasKind (fault_of app words) error)
    → (fault ≡ ran_out) ⊎ (parsed_words words ≡ None)
refused-words app words error fault told is kinds =
    let known =
    subst (λ (a : App). is_simple_and_free a ≡ true → HasKind (fault_of a words) error) is kinds
    in
    refused-by-kind words error fault told (known is-job-app-free)

-- what is found of words that `clap` takes is what they ask for
pub taken-words : (app : App) (words : List Text) (matches : ArgMatches)
    → app ≡ job_app → HasMatchesOf app words matches
    → (is_simple_and_free app ≡ true → fault_of app words ≡ [])
    → parsed_words words ≡ subcommand_rows_of matches
taken-words app words matches is found faultless_words =
    let known = subst (λ (a : App). HasMatchesOf a words matches) is found in
    let none =
    subst (λ (a : App). is_simple_and_free a ≡ true → fault_of a words ≡ []) is faultless_words in
    ap (λ kinds. faultless kinds (subcommand_of job_app words)) (none is-job-app-free)
    ∙ sym (known is-job-app-simple).1

-- ---- numbers

-- what digits write is the number of an option where it is one from the least to the greatest
pub number-some : (least greatest : ℕ) (text : Text) → IsNumeral 10 (without_leading_plus text)
    → digits_value 10 (without_leading_plus text) < 2 ^ 64
    → least ≤ digits_value 10 (without_leading_plus text)
    → digits_value 10 (without_leading_plus text) ≤ greatest
    → number_of least greatest text ≡ Some (digits_value 10 (without_leading_plus text))
number-some least greatest text digits fits low high =
    rw (Accepts-accepts false (vp.Unsigned least greatest) text (digits, fits, low, high)) refl

-- and else there is none
pub number-none : (least greatest : ℕ) (text : Text)
    → ¬ (IsNumeral 10 (without_leading_plus text)
    × (least ≤ digits_value 10 (without_leading_plus text))
    × (digits_value 10 (without_leading_plus text) ≤ greatest))
    → number_of least greatest text ≡ None
number-none least greatest text none = by_test (is_unsigned_in least greatest text) refl
  where
    by_test : (v : Bool) → is_unsigned_in least greatest text ≡ v
        → number_of least greatest text ≡ None
    by_test true e = let is = accepts-Accepts false (vp.Unsigned least greatest) text e in
        absurd (none (is.0, is.2, is.3))
    by_test false e = rw e refl

-- the number that is read of a text, by what std's `parse` answers at a type of so many bits
pub parsed-number : (bits least greatest : ℕ) (text : Text) (r : Result ℕ ParseIntError)
    → ParsesUnsigned bits 10 text r → 2 ^ bits ≤ 2 ^ 64
    → (n : ℕ) → result_ok r ≡ Some n → least ≤ n → n ≤ greatest
    → number_of least greatest text ≡ Some n
parsed-number bits least greatest text (Ok m) parsed within n e low high =
    let same : m ≡ n = cc in
    number-some least greatest text parsed.0.0 (omega (arith, parsed.0.1, within))
    (omega (arith, low, same, parsed.1)) (omega (arith, high, same, parsed.1))
    ∙ ap Some (sym parsed.1 ∙ same)
parsed-number bits least greatest text (Err fault) parsed within n e low high = absurd cc

-- it is one of so many bits
pub parsed-fits : (bits : ℕ) (text : Text) (r : Result ℕ ParseIntError)
    → ParsesUnsigned bits 10 text r → (n : ℕ) → result_ok r ≡ Some n → n < 2 ^ bits
parsed-fits bits text (Ok m) parsed n e =
    let same : m ≡ n = cc in omega (arith, parsed.0.1, parsed.1, same)
parsed-fits bits text (Err fault) parsed n e = absurd cc

pub unparsed-number : (bits least greatest : ℕ) (text : Text) (r : Result ℕ ParseIntError)
    → ParsesUnsigned bits 10 text r → greatest < 2 ^ bits → result_ok r ≡ None
    → number_of least greatest text ≡ None
unparsed-number bits least greatest text (Ok m) parsed top e = absurd cc
unparsed-number bits least greatest text (Err fault) parsed top e =
    number-none least greatest text (λ is. parsed (is.0, omega (arith, is.2, top)))
