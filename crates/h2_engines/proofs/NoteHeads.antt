-- What is kept of a request of which the head has come.
use Rattle.h2_engines.proofs.Names.{◌≡◌, List, [], ◌∷◌, ◌++◌, ℕ, length, sym, ap, ◌∙◌, append_assoc}
use Rattle.h2_engines.proofs.Names.{append-nil, bytes_eq, Field, Request, IsRequest, body_in, codes}
use Rattle.h2_message.specs.Fields.{method_of, path_of}

-- Of its body nothing has come.
nothing_in : (pre : List ℕ) → pre ≡ pre ++ body_in []
unfolding body_in
nothing_in pre = sym (append-nil pre)

-- The method, a space, the path and a line end, one after the other.
text_joined : (method path : List ℕ)
    → ((method ++ 32 ∷ []) ++ path) ++ 10 ∷ [] ≡ method ++ 32 ∷ path ++ 10 ∷ []
text_joined method path = ap (λ (line : List ℕ). line ++ 10 ∷ []) (append_assoc _ (32 ∷ []) _)

pub is_begun : (head : List Field) (request : Request) {method path : List ℕ}
    → method ≡ method_of head → path ≡ path_of head
    → request.text.items ≡ ((method ++ 32 ∷ []) ++ path) ++ 10 ∷ []
    → request.start ≡ length request.text.items → request.to_head ≡ bytes_eq method (codes "HEAD")
    → IsRequest head [] request
is_begun head request {method} {path} method_is path_is text start to_head =
    let pre = method_of head ++ 32 ∷ path_of head ++ 10 ∷ [] in
    let same : request.text.items ≡ pre =
    text ∙ text_joined method path ∙ ap (λ (one : List ℕ). one ++ 32 ∷ path ++ 10 ∷ []) method_is
    ∙ ap (λ (one : List ℕ). method_of head ++ 32 ∷ one ++ 10 ∷ []) path_is in
    record {
      text = same ∙ nothing_in pre;
      start = start ∙ ap length same ∙ ap length (sym (append-nil pre));
      to_head = to_head ∙ ap (λ (one : List ℕ). bytes_eq one (codes "HEAD")) method_is;
    }
