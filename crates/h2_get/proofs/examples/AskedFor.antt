-- URLs with a port, and fields of words.
use Rattle.std.proofs.Common.{◌≡◌, [], ◌∷◌, codes, refl, true, false, Some, None}
use Rattle.std.specs.Fmt.{digits}
use Rattle.h2_message.specs.Messages.{plain_field}
use Rattle.h2_net.specs.declared.location.Location.{Location}
use Rattle.h2_net.specs.Fetching.{get_request}
use Rattle.h2_args.specs.Words.{GetWords}
use Rattle.h2_get.specs.Ports.{url_with_port}
use Rattle.h2_get.specs.Requests.{begins_with_at, field_of_word, has_colon, method_asked}
use Rattle.h2_get.specs.Requests.{reads_input, request_asked}

-- rule: engines (own) The port of --port is that of a URL without one
port_before_the_path : url_with_port (codes "http://h/a?b") 9001 ≡ codes "http://h:9001/a?b"
unfolding digits
port_before_the_path = refl

port_before_the_query : url_with_port (codes "http://h?a/b") 80 ≡ codes "http://h:80?a/b"
unfolding digits
port_before_the_query = refl

port_before_the_fragment : url_with_port (codes "http://[::1]#a") 80 ≡ codes "http://[::1]:80#a"
unfolding digits
port_before_the_fragment = refl

port_at_the_end : url_with_port (codes "http://h") 1 ≡ codes "http://h:1"
unfolding digits
port_at_the_end = refl

-- rule (best): engines (own) The words of get make its request and say what is printed
name_in_lower_case : field_of_word (codes "Accept: */*")
    ≡ plain_field (codes "accept") (codes "*/*")
name_in_lower_case = refl

first_colon : field_of_word (codes "a:b:c") ≡ plain_field (codes "a") (codes "b:c")
first_colon = refl

-- `a: `, a tab, `b c` and a tab
blanks_at_the_ends : field_of_word
    (97 ∷ 58 ∷ 32 ∷ 9 ∷ 98 ∷ 32 ∷ 99 ∷ 9 ∷ []) ≡ plain_field (codes "a") (codes "b c")
blanks_at_the_ends = refl

blanks_alone : field_of_word (codes "a:  ") ≡ plain_field (codes "a") []
blanks_alone = refl

empty_value : field_of_word (codes "a:") ≡ plain_field (codes "a") []
empty_value = refl

no_name : field_of_word (codes ":path: /") ≡ plain_field [] (codes "path: /")
no_name = refl

no_colon : has_colon (codes "accept") ≡ false
no_colon = refl

-- words that ask for a URL alone, whatever it is
abbrev url_alone : GetWords
url_alone = record {
  url = codes "http://h:1/";
  include = false;
  fields = [];
  method = None;
  body = None;
  fail = false;
  port = None;
  output = None;
  stream = false;
  timeout = None;
  verbose = false;
  others = [];
  window = None;
}

-- rule: engines (own) A URL is asked for with GET
url_alone_is_got : (location : Location)
    → request_asked url_alone [] location ≡ get_request location
url_alone_is_got location = refl

post_with_a_body : method_asked (record url_alone { body = Some [] }) ≡ codes "POST"
post_with_a_body = refl

method_of_the_words : method_asked (record url_alone {
  method = Some (codes "PUT");
  body = Some (codes "a");
}) ≡ codes "PUT"
method_of_the_words = refl

input_is_read : reads_input (record url_alone { body = Some (codes "@-") }) ≡ true
input_is_read = refl

file_is_read : reads_input (record url_alone { body = Some (codes "@-a") }) ≡ false
file_is_read = refl

at_sign : begins_with_at (codes "@file") ≡ true
at_sign = refl

no_at_sign : begins_with_at (codes "a@b") ≡ false
no_at_sign = refl
